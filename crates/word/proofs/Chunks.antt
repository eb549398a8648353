-- A list taken apart in pieces of one size, as chunks_exact does: what a loop over them knows at piece k. Assumes nothing.
use Rattle.std.proofs.Common.{◌≡◌, ℕ, ◌+◌, ◌-◌, ◌*◌, ◌<◌, ◌≤◌, List, ◌++◌, length, take, drop, sym, ◌∙◌, ap, arith, length-append, length-drop, length-take, drop-drop, Some, None, Bor}
use Rattle.std.specs.declared.slice.ChunksExact.{ChunksExact}
use Rattle.std.proofs.lemmas.List.{take_at, drop_at, drop-take, take-take}
use Rattle.std.specs.Slice.Iter.{chunks_exact_size, chunks_exact_rest, chunks_exact_steps}

-- the pieces from piece k on are left
pub record Cut (size : ℕ) (xs : List ℕ) (k : ℕ) (pieces : ChunksExact ℕ) : Type 0 where
  pub each : chunks_exact_size pieces ≡ size
  pub left : chunks_exact_rest pieces ≡ drop (size * k) xs

-- x is piece k
pub record Piece (size : ℕ) (xs : List ℕ) (k : ℕ) (x : List ℕ) : Type 0 where
  pub is : x ≡ take size (drop (size * k) xs)
  pub long : length x ≡ size
  pub within : size * k + size ≤ length xs

pub cut-first : (size : ℕ) (xs : List ℕ) {pieces : ChunksExact ℕ} → chunks_exact_size pieces ≡ size → chunks_exact_rest pieces ≡ xs → Cut size xs 0 pieces
cut-first size xs e f = let z : size * 0 ≡ 0 = omega arith in record { each = e; left = rw z f }

module _ {size : ℕ} {xs : List ℕ} {k : ℕ} {old : ChunksExact ℕ} (cut : Cut size xs k old) where
  module _ (new : ChunksExact ℕ) (x : Bor (List ℕ)) (some : 0 < size) (step : chunks_exact_steps old (Some x) new) where
    long : length x.now ≡ size
    long = step.1.1 ∙ cut.each

    apart : drop (size * k) xs ≡ x.now ++ chunks_exact_rest new
    apart = sym cut.left ∙ step.1.0

    pub piece : Piece size xs k x.now
    piece = record {
      is = rw apart (sym (take_at x.now (chunks_exact_rest new) size long));
      long = long;
      within = omega (arith, some, long, ap length apart, length-append x.now (chunks_exact_rest new), length-drop (size * k) xs);
    }

    pub cut-next : Cut size xs (k + 1) new
    cut-next =
        let more : size * (k + 1) ≡ size * k + size = omega arith in
        record {
          each = step.0 ∙ cut.each;
          left = rw (more, ← drop-drop size (size * k) xs, apart) (sym (drop_at x.now (chunks_exact_rest new) size long));
        }

  pub cut-end : (new : ChunksExact ℕ) → chunks_exact_steps old None new → length xs < size * k + size
  cut-end new step = omega (arith, step.1.0, cut.each, ap length cut.left, length-drop (size * k) xs)

-- The first n pieces of a list ------------------------------------------------------------------------------------------------------------

drop-front : (a b c : ℕ) (s : List ℕ) → c ≡ a + b → drop a (take c s) ≡ take b (drop a s)
drop-front a b c s e = rw e (drop-take a b s)

module _ (size n : ℕ) (s : List ℕ) (fits : size * n ≤ length s) where
  pub front-length : length (take (size * n) s) ≡ size * n
  front-length = simp length-take (omega (arith, fits))

  pub front-piece : {k : ℕ} {x : List ℕ} → Piece size (take (size * n) s) k x → (x ≡ take size (drop (size * k) s)) × (size * k + size ≤ size * n)
  front-piece {k} p =
      let w : size * k + size ≤ size * n = omega (arith, p.within, front-length) in (
        p.is
            ∙ ap (take size) (drop-front (size * k) (size * n - size * k) (size * n) s (omega (arith, w)))
            ∙ take-take size (size * n - size * k) (drop (size * k) s) (omega (arith, w)),
        w,
      )
