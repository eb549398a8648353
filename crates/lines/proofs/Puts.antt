-- Bytes put into a buffer one after another: what is still to be put in, with some bytes less, and with none. Assumes nothing.
use mathlib.Core.List.{List, [], ◌∷◌, ◌++◌, append_assoc}
use mathlib.Core.Path.{◌≡◌, sym, ◌∙◌, ap}
use Prim.Native.Nat.{ℕ, ◌+◌, ◌≤◌}
use native.Mathlib.Omega.{arith}
use lib.ListN.{length, set, length-append}
use lib.Seq.{sets}
use Rattle.model.specs.Calls.{overwrite}
use Rattle.word.proofs.Puts.{overwrite-sets}
use Rattle.laws.specs.Lists.Writes.{sets-append}

module _ (d v : List ℕ) (at b : ℕ) {d' : List ℕ} {k : ℕ} where
  -- a byte after what was put in
  pub put_after : k ≡ at + length v → d' ≡ sets d at v → set d' k b ≡ sets d at (v ++ (b ∷ []))
  put_after e f = rw (e, f) (sym (sets-append d at v (b ∷ [])))

  -- the rest after a number and its byte
  pub put_rest : (rest : List ℕ) → k ≡ at + length v + 1 → d' ≡ sets d at (v ++ (b ∷ [])) → sets d at (v ++ (b ∷ rest)) ≡ sets d' k rest
  put_rest rest e f =
      let l : k ≡ at + length (v ++ (b ∷ [])) = simp length-append (omega arith) in
      rw (f, l) (ap (λ (t : List ℕ). sets d at t) (sym (append_assoc v (b ∷ []) rest)) ∙ sets-append d at (v ++ (b ∷ [])) rest)

-- v put into d from at on: the list afterwards, and the place after v
abbrev pub Put : List ℕ → ℕ → List ℕ → List ℕ → ℕ → Type 0
Put d at v d' next = (next ≡ at + length v) × (d' ≡ sets d at v)

pub number_put : (d : List ℕ) (at : ℕ) (v : List ℕ) (b : ℕ) {d' : List ℕ} {next : ℕ}
    → (next ≡ at + length v + 1) × (d' ≡ sets d at (v ++ (b ∷ []))) → Put d at (v ++ (b ∷ [])) d' next
number_put d at v b p = (simp length-append (omega (arith, p.0)), p.1)

-- two puts side by side are one
pub put_both : (d : List ℕ) (at : ℕ) (u v : List ℕ) {d₁ d₂ : List ℕ} {i j : ℕ} → Put d at u d₁ i → Put d₁ i v d₂ j → Put d at (u ++ v) d₂ j
put_both d at u v p q = (simp length-append (omega (arith, p.0, q.0)), q.1 ∙ rw (p.1, p.0) (sym (sets-append d at u v)))

-- what is put in from 0 on stands over the lent list
pub put-over : (d v : List ℕ) {d' : List ℕ} {next : ℕ} → Put d 0 v d' next → next ≤ length d → (next ≡ length v) × (d' ≡ overwrite v d)
put-over d v p h = (omega (arith, p.0), p.1 ∙ sym (overwrite-sets v d (omega (arith, p.0))))
