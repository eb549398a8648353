-- Bytes put into a list one after another: what is still to be put in, a copy into a part, and a result over the whole. Assumes nothing.
use Rattle.std.proofs.Common.{◌≡◌, ℕ, suc, ◌+◌, ◌-◌, ◌<◌, ◌≤◌, List, length, get_or, take, drop, set, sym, refl, arith, append_assoc, append-nil, drop_of_length-le, drop-cons, drop-drop}
use borrow.Rule.Slice.PartMut.{put_mid}
use lib.Seq.{sets, sets-eq}
use Rattle.model.specs.Calls.{overwrite}

-- what is still to be put in, with one byte less, with none, and of a list that is as long
pub next-put : (d s : List ℕ) (k : ℕ) → k < length s → sets d k (drop k s) ≡ sets (set d k (get_or s k 0)) (k + 1) (drop (k + 1) s)
next-put d s k h = let e : k + 1 ≡ suc k = omega arith in rw (e, drop-cons s k 0 h) refl

pub put-done : (d s : List ℕ) (at k : ℕ) → length s ≤ k → sets d at (drop k s) ≡ d
put-done d s at k h = rw (drop_of_length-le s h) refl

pub put-whole : (d s : List ℕ) → length d ≡ length s → sets d 0 (drop 0 s) ≡ s
put-whole d s h =
    let e : 0 + length s ≡ length s = omega arith in
    rw (sets-eq s d 0 (omega arith), e, drop_of_length-le d {i = length s} (omega arith)) (append-nil s)

-- a copy of v into the part of d that begins at `at` and is as long
pub sets-copied : (d v : List ℕ) (at : ℕ) {w : List ℕ} → w ≡ v → at + length v ≤ length d → put_mid at (at + length v - at) d w ≡ sets d at v
sets-copied d v at e h =
    let k : at + length v - at ≡ length v = omega arith in
    rw (k, e, sets-eq v d at h, drop-drop) (sym (append_assoc (take at d) v (drop (at + length v) d)))

-- a result written over a lent list is put in from 0 on
pub overwrite-sets : (v d : List ℕ) → length v ≤ length d → overwrite v d ≡ sets d 0 v
overwrite-sets v d h = let e : 0 + length v ≡ length v = omega arith in sym (rw e at (sets-eq v d 0 (omega arith)))
