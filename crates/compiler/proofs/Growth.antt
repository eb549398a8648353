-- What a walk has put in since a place, run after run: delay cells, walk cells and marks, each behind the last. The kinds of statement are built of
-- such steps. Assumes nothing.
use mathlib.Core.Path.{◌≡◌, refl, sym, ◌∙◌, ap}
use mathlib.Core.List.{List, [], ◌∷◌, ◌++◌, append_assoc}
use Prim.Native.Nat.{ℕ, ◌+◌, ◌*◌, ◌≤◌}
use native.Mathlib.Omega.{arith}
use lib.ListN.{length, take, drop, length-append}
use lib.Seq.{sets, sets-eq, drop-drop}
use borrow.Rule.Slice.PartMut.{put_mid}
use Rattle.model.specs.declared.Cell.{Cell}
use Rattle.model.specs.Program.{Code, ok, tick, assign, assign_elem, seq, par, ite, while, repeat, loop, exit, call}
use Rattle.model.specs.Numbering.{memory_wires, if_delay_count, past_switches, delay_count, exit_count, walk_count, finish_wire, delays, walk}
use Rattle.laws.specs.Numbering.Lengths.{d-len, w-len}
use Rattle.laws.specs.Lists.Writes.{sets-append}
use Rattle.compiler.specs.declared.walk.Place.{Place}
use Rattle.compiler.specs.Writes.{write, both}
use Rattle.compiler.specs.Walk.{place, assignments, marks_of, Done}
use Rattle.compiler.proofs.Writes.{behind, write-none, both-walk, both-delay, both-front}

same_place : {w w' d d' c c' k k' o o' : ℕ} → w ≡ w' → d ≡ d' → c ≡ c' → k ≡ k' → o ≡ o' → place w d c k o ≡ place w' d' c' k' o'
same_place a b c d e = rw (a, b, c, d, e)

-- the place at which a statement that is entered at p is left
abbrev pub leave : Code → Place → Place
leave P p =
    place (finish_wire P p.wire p.delay p.cell) (p.delay + delay_count P) (p.cell + walk_count P) (p.mark + 4 * assignments P)
    (p.out + exit_count P)

pub left : {pulse M : ℕ} {F : ℕ → ℕ} {P : Code} {p r : Place} {b a k l : List ℕ} → Done pulse M F P p b a k l r → r ≡ leave P p
left u = same_place u.wire u.delay u.cell u.mark u.out

pub marks-length : (P : Code) (d c : ℕ) → length (marks_of P d c) ≡ 4 * assignments P
unfolding marks_of assignments
marks-length ok d c = refl
marks-length (tick δ) d c = refl
marks-length (assign δ x e) d c = refl
marks-length (assign_elem δ k i e) d c = refl
marks-length (seq P Q) d c = simp (length-append, marks-length P d c, marks-length Q (d + delay_count P) (c + walk_count P)) (omega arith)
marks-length (par P Q) d c = simp (length-append, marks-length P d c, marks-length Q (d + delay_count P) (c + walk_count P)) (omega arith)
marks-length (ite δ e P Q) d c =
    simp (
      length-append,
      marks-length P (d + if_delay_count δ) (past_switches e c),
      marks-length Q (d + if_delay_count δ + delay_count P) (past_switches e c + walk_count P),
    )
    (omega arith)
marks-length (while δ e P) d c = marks-length P (d + 1) (past_switches e c)
marks-length (repeat δ e P) d c = marks-length P (d + 1) (past_switches e c + 1)
marks-length (loop δ P) d c = marks-length P (d + 1) (c + 1)
marks-length exit d c = refl
marks-length (call δ p) d c = refl

-- marks put over as many others
pub marks-over : (ms ys new : List ℕ) (k : ℕ) {n : ℕ} → new ≡ ys → n ≡ length ys → k + length ys ≤ length ms → put_mid k n ms new ≡ sets ms k ys
marks-over ms ys new k {n} e count h =
    rw (e, count, drop-drop (length ys) k ms) (sym (sets-eq ys ms k h ∙ append_assoc (take k ms) ys (drop (k + length ys) ms)))

-- Steps --------------------------------------------------------------------------------------------------------------------------------

-- since a place with next cells d and c and next mark k: delay cells D, walk cells W and marks K are put in; d', c' and k' are next
pub record Grown (d c k : ℕ) (before marked : List ℕ) (D W : List Cell) (K : List ℕ) (after remarked : List ℕ) (d' c' k' : ℕ) : Type 0 where
  cells : after ≡ both d D c W before
  marks : remarked ≡ sets marked k K
  delay : d' ≡ d + length D
  cell : c' ≡ c + length W
  mark : k' ≡ k + length K

pub grown-none : {d c k : ℕ} {before marked : List ℕ} → Grown d c k before marked [] [] [] before marked d c k
unfolding both
grown-none {d} {c} {k} {before} =
    record {
      cells = sym (ap (write c []) (write-none d before) ∙ write-none c before);
      marks = refl;
      delay = omega arith;
      cell = omega arith;
      mark = omega arith;
    }

module _ {d c k d' c' k' : ℕ} {before marked after remarked : List ℕ} {D W : List Cell} {K : List ℕ}
    (g : Grown d c k before marked D W K after remarked d' c' k') where
  -- delay cells behind the others
  pub grow-delay : {n : ℕ} {end : List ℕ} (xs : List Cell) → n ≡ d' + length xs → n ≤ c → end ≡ write d' xs after
      → Grown d c k before marked (D ++ xs) W K end remarked n c' k'
  grow-delay xs e h w =
      record {
        cells = w ∙ ap (write d' xs) g.cells ∙ both-delay d c D W before xs d' g.delay (omega arith);
        marks = g.marks;
        delay = simp length-append (omega (arith, e, g.delay));
        cell = g.cell;
        mark = g.mark;
      }

  pub grow-walk : {n : ℕ} {end : List ℕ} (ys : List Cell) → n ≡ c' + length ys → end ≡ write c' ys after
      → Grown d c k before marked D (W ++ ys) K end remarked d' n k'
  grow-walk ys e w =
      record {
        cells = w ∙ ap (write c' ys) g.cells ∙ both-walk d c D W before ys c' g.cell;
        marks = g.marks;
        delay = g.delay;
        cell = simp length-append (omega (arith, e, g.cell));
        mark = g.mark;
      }

  pub grow-marks : {n : ℕ} {end : List ℕ} (ks : List ℕ) → n ≡ k' + length ks → end ≡ sets remarked k' ks
      → Grown d c k before marked D W (K ++ ks) after end d' c' n
  grow-marks ks e m =
      record {
        cells = g.cells;
        marks = rw (g.marks, g.mark) at m ∙ sym (sets-append marked k K ks);
        delay = g.delay;
        cell = g.cell;
        mark = simp length-append (omega (arith, e, g.mark));
      }

module _ {d c k d' c' k' : ℕ} {before marked after remarked : List ℕ} {D W : List Cell} {K : List ℕ} where
  -- a part
  pub grow-part : {M w o pulse : ℕ} {F : ℕ → ℕ} {Q : Code} {r : Place} {end marks : List ℕ} → Grown d c k before marked D W K after remarked d' c' k'
      → d' + delay_count Q ≤ c → Done pulse M F Q (place w d' c' k' o) after end remarked marks r
      → Grown d c k before marked (D ++ delays pulse Q w d' c') (W ++ walk (memory_wires M) F Q w d' c') (K ++ marks_of Q d' c') end marks
      (d' + delay_count Q) (c' + walk_count Q) (k' + 4 * assignments Q)
  unfolding both
  grow-part {M} {w} {pulse = pulse} {F = F} {Q} g h u =
      let x = grow-delay g (delays pulse Q w d' c') (behind d' (d-len pulse Q w d' c')) h refl in
      let y = grow-walk x (walk (memory_wires M) F Q w d' c') (behind c' (w-len (memory_wires M) F Q w d' c')) u.cells in
      grow-marks y (marks_of Q d' c') (behind k' (marks-length Q d' c')) u.marks

  -- a delay cell in front of the others
  pub grow-front : {x : Cell} {end : List ℕ} → Grown (d + 1) c k before marked D W K after remarked d' c' k' → d' ≤ c
      → end ≡ write d (x ∷ []) after → Grown d c k before marked (x ∷ D) W K end remarked d' c' k'
  grow-front {x} g h w =
      record {
        cells = w ∙ ap (write d (x ∷ [])) g.cells ∙ both-front (d + 1) c D W before (x ∷ []) d refl (omega (arith, g.delay));
        marks = g.marks;
        delay = omega (arith, g.delay);
        cell = g.cell;
        mark = g.mark;
      }

-- a statement whose cells and marks these are is done
pub closed : {pulse M d c k : ℕ} {F : ℕ → ℕ} {S : Code} {p r : Place} {before marked after remarked K : List ℕ} {D W : List Cell}
    → Grown p.delay p.cell p.mark before marked D W K after remarked d c k
    → D ≡ delays pulse S p.wire p.delay p.cell → W ≡ walk (memory_wires M) F S p.wire p.delay p.cell → K ≡ marks_of S p.delay p.cell
    → r.out ≡ p.out + exit_count S → r ≡ place (finish_wire S p.wire p.delay p.cell) d c k r.out → Done pulse M F S p before after marked remarked r
closed {pulse} {M} {F = F} {S} {p} g₀ eD eW eK o e =
    let g = rw (eD, eW, eK) at g₀ in
    record {
      cells = g.cells;
      marks = g.marks;
      wire = ap (λ (r : Place). r.wire) e;
      delay = ap (λ (r : Place). r.delay) e ∙ g.delay ∙ ap (λ (n : ℕ). p.delay + n) (d-len pulse S p.wire p.delay p.cell);
      cell = ap (λ (r : Place). r.cell) e ∙ g.cell ∙ ap (λ (n : ℕ). p.cell + n) (w-len (memory_wires M) F S p.wire p.delay p.cell);
      mark = ap (λ (r : Place). r.mark) e ∙ g.mark ∙ ap (λ (n : ℕ). p.mark + n) (marks-length S p.delay p.cell);
      out = o;
    }
