-- How the reader over all words of a text goes from a word to the next, breaks, or ends.
-- Assumes nothing.
use Rattle.std.proofs.Common.{◌≡◌, ℕ, Ok, Err, suc, ◌≤◌, true, false, List, [], ◌∷◌, length, drop, sym, refl, ap, ◌∙◌, arith}
use Rattle.std.specs.Prelude.{Option, Some, None, Err}
use Rattle.model.specs.Text.{lexeme, words_from, limit_after}
use Rattle.model.specs.Reader.{step, is_broken, complete, bad, reader_at_first, read_from}
use Rattle.model.specs.TextCalls.{reading_of}
use Rattle.laws.specs.Text.Runs.{reads_end, reads_short, reads-broken, reads_on}
use Rattle.scanner.specs.declared.Scanned.{Scanned}
use Rattle.scanner.specs.declared.Words.{Words}
use Rattle.text.specs.declared.machine.Machine.{Machine}
use Rattle.scanner.specs.Scanning.{words_ahead, next_word, Steps, Next}
use Rattle.scanner.specs.ScanningLaws.{next}
use Rattle.text.specs.Shown.{Lists, Shows, Grows, FollowsWithin, limit_of, frames_in}
use Rattle.text.specs.Parsing.{Parses, Room, Going}
use Rattle.scanner.proofs.WordLaws.{value-limited}
use Rattle.text.proofs.Bounds.{within_first, within_step, within-up}
use Rattle.text.proofs.Limits.{admits-step}

module _ (text : List ℕ) where
  -- what a step through the words of the text tells
  pub told-by : {ws left : Words} {r : Option Scanned} → ws.text.now ≡ text → Steps ws r left → r ≡ next_word ws.previous ws.at text
  told-by e s = rw e at s.first

  pub going-first : {m : Machine} {l : Lists} → m.height ≡ 0 → Shows reader_at_first m l → Room l → Going text 0 0 m l
  unfolding reading_of limit_after limit_of
  going-first {m} {l} h s room =
      record {
        reader = reader_at_first;
        shows = s;
        rest = refl;
        within = within_first;
        room = room;
        height = (omega arith, omega arith);
        limited = rw s.mode (omega arith);
      }

  module _ {at p : ℕ} {m : Machine} {l : Lists} (g : Going text at p m l) where
    -- at a word --------------------------------------------------------------------------------------------------------------------------

    module _ {w : Scanned} (told : Some w ≡ next_word p at text) where
      pub ahead : Next text at p (Some w)
      ahead = next text at p told

      -- its number is one that the machine takes
      pub word-limited : w.token.value ≤ limit_of m.mode
      word-limited = omega (arith, value-limited p at text told, g.limited)

      here : reading_of text
          ≡ read_from (length text) g.reader (lexeme w.token w.place ∷ words_from 0 w.token.code w.end (drop w.end text))
      unfolding words_ahead
      here = g.rest ∙ ap (read_from (length text) g.reader) ahead.words

      module _ (short : length text ≤ 4096) {x : Machine} {l' : Lists} (f : FollowsWithin (step w.token) m l x l') where
        shown : Shows (step w.token g.reader) x l'
        shown = f g.reader (within-up g.reader g.within 4095 (omega (arith, ahead.stands))) g.shows

        pub going-breaks : is_broken x.mode ≡ true → reading_of text ≡ bad w.place
        going-breaks e = here ∙ reads-broken (length text) g.reader (lexeme w.token w.place) _ (sym (ap is_broken shown.mode) ∙ e)

        pub going_next : is_broken x.mode ≡ false → Grows 1 1 m x → Room l' → Going text w.end w.token.code x l'
        going_next e grows room =
            let t = w.token in
            let r = g.reader in
            let onward : suc at ≤ w.end = omega (arith, ahead.stands) in
            record {
              reader = step t r;
              shows = shown;
              rest = here ∙ reads_on (length text) r (lexeme t w.place) _ (sym (ap is_broken shown.mode) ∙ e);
              within = within-up (step t r) (within_step t r g.within r.mode) w.end onward;
              room = room;
              height = (omega (arith, grows.height, g.height.0, onward), omega (arith, grows.height, g.height.0, ahead.stands));
              limited = rw shown.mode (admits-step t r r.mode refl).fits;
            }

    -- at the end -------------------------------------------------------------------------------------------------------------------------

    module _ (done : None ≡ next_word p at text) where
      last : reading_of text ≡ read_from (length text) g.reader []
      unfolding words_ahead
      last = g.rest ∙ ap (read_from (length text) g.reader) (next text at p done).words

      agrees : complete m.mode (frames_in l.stack m.height) ≡ complete g.reader.mode g.reader.frames
      agrees = rw (g.shows.mode, g.shows.frames) refl

      pub going-ends : complete m.mode (frames_in l.stack m.height) ≡ true → Parses text l.nodes (Ok m.count)
      unfolding Parses
      going-ends e = (g.reader.nodes, last ∙ reads_end (length text) g.reader (sym agrees ∙ e), g.shows.count, g.shows.nodes)

      pub going-open : complete m.mode (frames_in l.stack m.height) ≡ false → Parses text l.nodes (Err (length text))
      unfolding Parses
      going-open e = last ∙ reads_short (length text) g.reader (sym agrees ∙ e)
