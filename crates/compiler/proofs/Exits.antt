-- The exits that wait for the end of their loop: what waits behind a statement, kind by kind, and the loop that joins what waits. Assumes nothing.
use mathlib.Core.Path.{◌≡◌, refl, sym, ◌∙◌, ap}
use mathlib.Core.List.{List, [], ◌∷◌, ◌++◌, append_assoc, append-nil}
use Prim.Native.Nat.{ℕ, ◌+◌, ◌≤◌, ◌<◌}
use native.Mathlib.Omega.{arith}
use native.Mathlib.Numerals.{add-one}
use lib.ListN.{length, get_or, set, take, drop, length-set, drop_of_length-le}
use lib.Seq.{drop_at, drop-cons, get_or-take, take_at, take-take, take-suc-set, length-take-le}
use Rattle.model.specs.Program.{Expr, Code, seq, par, ite, while, repeat, loop, exit}
use Rattle.model.specs.Numbering.{Wires, exit_count, exit_wires}
use Rattle.compiler.specs.declared.walk.Word.{Word}
use Rattle.compiler.specs.declared.walk.Place.{Place}
use Rattle.compiler.specs.Walk.{place, Switched, Owned, Done, Opened, waiting, ExitsReady}
use Rattle.compiler.proofs.Growth.{left}

-- What waits behind a statement --------------------------------------------------------------------------------------------------------

pub opened-none : (P : Code) {p : Place} {o : List ℕ} → exit_count P ≡ 0 → exit_wires P p.wire p.delay p.cell ≡ [] → Opened P p o o
opened-none P {p} {o} e w =
    let z : p.out + exit_count P ≡ p.out = omega arith in
    record { same = refl; starts = rw (z, w) (sym (append-nil (take p.out o))) }

module _ {P Q : Code} {p : Place} {o o₁ o₂ : List ℕ} where
  two : {q : Place} → Opened P p o o₁ → Opened Q q o₁ o₂ → q.out ≡ p.out + exit_count P
      → take (p.out + (exit_count P + exit_count Q)) o₂
      ≡ take p.out o ++ (exit_wires P p.wire p.delay p.cell ++ exit_wires Q q.wire q.delay q.cell)
  two {q} u v e =
      let z : p.out + (exit_count P + exit_count Q) ≡ q.out + exit_count Q = omega arith in
      let X = exit_wires P p.wire p.delay p.cell in
      let Y = exit_wires Q q.wire q.delay q.cell in
      rw z
      (v.starts ∙ ap (λ (k : ℕ). take k o₁ ++ Y) e ∙ ap (λ (l : List ℕ). l ++ Y) u.starts ∙ append_assoc (take p.out o) X Y)

  module _ {M : ℕ} {pulse : ℕ} {F : ℕ → ℕ} {q : Place} {b a k l : List ℕ} where
    pub seq-opened : Done pulse M F P p b a k l q → Opened P p o o₁ → Opened Q q o₁ o₂ → Opened (seq P Q) p o o₂
    unfolding exit_count exit_wires
    seq-opened d u v₀ = let v = rw (left d) at v₀ in record { same = v.same ∙ u.same; starts = two u v refl }

    pub par-opened : Done pulse M F P p b a k l q → Opened P p o o₁ → Opened Q (place p.wire q.delay q.cell q.mark q.out) o₁ o₂
        → Opened (par P Q) p o o₂
    unfolding exit_count exit_wires
    par-opened d u v₀ = let v = rw (left d) at v₀ in record { same = v.same ∙ u.same; starts = two u v refl }

module _ {P Q : Code} {ws : Wires} {M δ g t : ℕ} {pulse : ℕ} {F : ℕ → ℕ} {E : Expr} {p q : Place} {o o₁ o₂ m₀ m₁ m₂ b a k l : List ℕ} where
  pub if-opened : {ow : Word} → Owned δ p.wire p.delay m₀ m₁ ow
      → Switched ws E p.cell g m₁ m₂ t
      → Done pulse M F P (place t ow.cell (t + 1 + 1) p.mark p.out) b a k l q
      → Opened P (place t ow.cell (t + 1 + 1) p.mark p.out) o o₁
      → Opened Q (place (t + 1) q.delay q.cell q.mark q.out) o₁ o₂
      → Opened (ite δ E P Q) p o o₂
  unfolding exit_count exit_wires
  if-opened ow sw d₀ u₀ v₀ =
      let d = rw (sw.switch, ow.cell) at d₀ in
      let u = rw (sw.switch, ow.cell) at u₀ in
      let v = rw (sw.switch, left d) at v₀ in
      record { same = v.same ∙ u.same; starts = two u v refl }

module _ {P : Code} {ws : Wires} {δ g t : ℕ} {E : Expr} {p : Place} {o o₁ m₁ m₂ : List ℕ} (sw : Switched ws E p.cell g m₁ m₂ t) where
  pub while-opened : Opened P (place t (p.delay + 1) (t + 1 + 1) p.mark p.out) o o₁ → Opened (while δ E P) p o o₁
  unfolding exit_count exit_wires
  while-opened u₀ = let u = rw sw.switch at u₀ in record { same = u.same; starts = u.starts }

  pub repeat-opened : Opened P (place (t + 1 + 1) (p.delay + 1) (t + 1 + 1 + 1) p.mark p.out) o o₁ → Opened (repeat δ E P) p o o₁
  unfolding exit_count exit_wires
  repeat-opened u₀ = let u = rw sw.switch at u₀ in record { same = u.same; starts = u.starts }

module _ {P : Code} {p : Place} {o o' : List ℕ} (u : Opened P p o o') (h : p.out ≤ length o) where
  -- the starts of its exits
  pub opened-waiting : waiting o' p.out (p.out + exit_count P) ≡ exit_wires P p.wire p.delay p.cell
  opened-waiting =
      ap (λ (l : List ℕ). drop p.out l) u.starts
      ∙ drop_at (take p.out o) (exit_wires P p.wire p.delay p.cell) p.out (length-take-le p.out o h)

  -- those that waited before still do
  still-waiting : take p.out o' ≡ take p.out o
  still-waiting =
      sym (take-take p.out (p.out + exit_count P) o' (omega arith))
      ∙ ap (λ (l : List ℕ). take p.out l) u.starts
      ∙ take_at (take p.out o) (exit_wires P p.wire p.delay p.cell) p.out (length-take-le p.out o h)

pub loop-opened : {P : Code} {δ : ℕ} {p : Place} {o o' : List ℕ} → p.out ≤ length o
    → Opened P (place p.cell (p.delay + 1) (p.cell + 1) p.mark p.out) o o' → Opened (loop δ P) p o o'
unfolding exit_count exit_wires
loop-opened {p = p} {o} h u =
    let z : p.out + 0 ≡ p.out = omega arith in
    record { same = u.same; starts = rw z (still-waiting u h ∙ sym (append-nil (take p.out o))) }

pub exit-opened : {p : Place} {o : List ℕ} → p.out + 1 ≤ length o → Opened exit p o (set o p.out p.wire)
unfolding exit_count exit_wires
exit-opened {p} {o} h =
    record { same = length-set o p.out p.wire; starts = rw (add-one p.out) (take-suc-set o p.out p.wire (omega arith)) }

-- Joining what waits -------------------------------------------------------------------------------------------------------------------

module _ {os : List ℕ} {i j n size : ℕ} (r : ExitsReady os i j n size) where
  top : length (take j os) ≡ j
  top = length-take-le j os (omega (arith, r.most, r.long))

  pub waiting-more : (k : ℕ) → k < j → waiting os k j ≡ get_or os k 0 ∷ waiting os (k + 1) j
  waiting-more k h =
      drop-cons (take j os) k 0 (omega (arith, top))
      ∙ rw (get_or-take j os k 0 h, add-one k) refl

  pub waiting-none : (k : ℕ) → j ≤ k → waiting os k j ≡ []
  waiting-none k h = drop_of_length-le (take j os) {i = k} (omega (arith, top))
