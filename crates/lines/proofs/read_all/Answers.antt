-- `read_all`: what is read stands behind what was read before. Assumes nothing.
use Rattle.std.proofs.Common.{rules, ◌≡◌, ℕ, ◌+◌, ◌-◌, ◌≤◌, List, ◌++◌, length, take, slice_range, sym, ap, ◌∙◌, subst, le_refl, drop_at, arith, length-take-le}
use Rattle.std.proofs.lemmas.Slice.{take-put_mid_below}
use Rattle.std.specs.Io.KnownBytes.{Consumes}
use Rattle.std.proofs.KnownBytes.{Consumes-trans}
use borrow.Rule.Slice.PartMut.{put_mid, post_of}
use lib.Seq.{take-add, take-append-le}
use Rattle.lines.proofs.read_all.Goals as goal

module _ (a n : ℕ) (xs ys : List ℕ) (within : a ≤ length xs) (fits : n ≤ length ys) where
  abbrev all : List ℕ
  all = put_mid a (length xs - a) xs ys

  behind : slice_range all a (a + n) ≡ take n ys
  behind =
      let same : (a + n) - a ≡ n = omega arith in
      let after = post_of a (length xs - a) xs in
      ap (take ((a + n) - a)) (drop_at (take a xs) (ys ++ after) a (length-take-le a xs within)) ∙ ap (λ m. take m (ys ++ after)) same ∙ take-append-le n ys after fits

  joined : take a xs ++ take n ys ≡ take (a + n) all
  joined =
      let front : take a all ≡ take a xs = take-put_mid_below _ _ _ _ _ (le_refl a) within in
      let same : a + ((a + n) - a) ≡ a + n = omega arith in
      ap (λ l. take a xs ++ l) (sym behind) ∙ ap (λ l. l ++ slice_range all a (a + n)) (sym front) ∙ sym (take-add a ((a + n) - a) all) ∙ ap (λ m. take m all) same

pub loop-count-preserved : goal.loop-count-preserved
loop-count-preserved g c =
    let loop = c.loop-count in
    record {
      room = search rules;
      read = subst (Consumes _ _) (joined loop.count c.in_ok-read.read loop.bytes c.read.new.buf loop.invariant.room c.in_ok-read.ensures.bound.0)
          (Consumes-trans _ _ _ _ _ loop.invariant.read c.in_ok-read.ensures.bytes.0);
    }
