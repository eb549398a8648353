-- Which bodies do what, one body further: each by those before it.
-- Assumes nothing.
use mathlib.Core.Path.{◌≡◌, refl, sym, ◌∙◌, ap}
use mathlib.Core.Bool.{Bool, false}
use mathlib.Core.List.{List}
use Prim.Native.Nat.{ℕ, zero, suc, ◌+◌, ◌<◌}
use native.Mathlib.Decide.{ℕ_discrete}
use lib.ListN.{length, get_or, set, replicate}
use lib.Seq.{get_or-set_same, get_or-set_other}
use Rattle.model.specs.Program.{Code, Stmt, ok, preorder, writes, touches}
use Rattle.model.specs.Procedures.{body_at, table, inline, inlined, reaches, reached}
use Rattle.laws.specs.Program.Fit.{Known}
use Rattle.laws.specs.Program.Inlined.{table-new, table-old}
use Rattle.program.specs.declared.clashes.Mark.{Mark}
use Rattle.program.specs.declared.clashes.Mark.TheVariants.{Writes, Touches, Calls}
use Rattle.program.specs.Uses.{any_marked, has_by, carried_by, carried, marked-has}

-- the first n bodies without calls, and which of them reach q
abbrev meant : List Code → ℕ → ℕ → Stmt
meant bodies n p = table ok (λ I k. inline I (body_at bodies k)) n p

abbrev met : List Code → ℕ → ℕ → ℕ → Bool
met bodies q n p = table false (λ r k. reaches (λ p q. r p) (body_at bodies k) q) n p

-- which of the first n bodies do it
unfoldable pub stage : List Code → Mark → ℕ → ℕ → Bool
stage bodies (Writes x) n p = writes (meant bodies n p) x
stage bodies (Touches x) n p = touches (meant bodies n p) x
stage bodies (Calls q) n p = met bodies q n p

pub stage-all : (bodies : List Code) (m : Mark) (n : ℕ) → n ≡ length bodies → (p : ℕ) → stage bodies m n p ≡ carried bodies m p
unfolding stage carried_by inlined reached
stage-all bodies (Writes x) n e p = ap (λ (n : ℕ). writes (meant bodies n p) x) e
stage-all bodies (Touches x) n e p = ap (λ (n : ℕ). touches (meant bodies n p) x) e
stage-all bodies (Calls q) n e p = ap (λ (n : ℕ). met bodies q n p) e

stage-none : (bodies : List Code) (m : Mark) (p : ℕ) → stage bodies m 0 p ≡ false
unfolding stage table writes touches
stage-none bodies (Writes x) p = refl
stage-none bodies (Touches x) p = refl
stage-none bodies (Calls q) p = refl

stage-old : (bodies : List Code) (m : Mark) (n p : ℕ) → (p ≡ n → ⊥) → stage bodies m n p ≡ stage bodies m (n + 1) p
unfolding stage
stage-old bodies (Writes x) n p o = ap (λ (P : Stmt). writes P x) (sym (table-old ok (λ I k. inline I (body_at bodies k)) n p o))
stage-old bodies (Touches x) n p o = ap (λ (P : Stmt). touches P x) (sym (table-old ok (λ I k. inline I (body_at bodies k)) n p o))
stage-old bodies (Calls q) n p o = sym (table-old false (λ r k. reaches (λ p q. r p) (body_at bodies k) q) n p o)

stage-new : (bodies : List Code) (m : Mark) (T : ℕ → Bool) (n : ℕ) → ((p : ℕ) → T p ≡ stage bodies m n p) → Known (body_at bodies n)
    → any_marked m T (preorder (body_at bodies n)) ≡ stage bodies m (n + 1) n
unfolding stage has_by carried_by
stage-new bodies (Writes x) T n h g =
    marked-has (Writes x) T (meant bodies n) (λ p q. false) h (body_at bodies n) g
    ∙ ap (λ (P : Stmt). writes P x) (sym (table-new ok (λ I k. inline I (body_at bodies k)) n))
stage-new bodies (Touches x) T n h g =
    marked-has (Touches x) T (meant bodies n) (λ p q. false) h (body_at bodies n) g
    ∙ ap (λ (P : Stmt). touches P x) (sym (table-new ok (λ I k. inline I (body_at bodies k)) n))
stage-new bodies (Calls q) T n h g =
    marked-has (Calls q) T (λ p. ok) (λ p r. met bodies q n p) h (body_at bodies n) g
    ∙ sym (table-new false (λ r k. reaches (λ p q. r p) (body_at bodies k) q) n)

all-false : (n p : ℕ) → get_or (replicate n false) p false ≡ false
all-false zero zero = refl
all-false zero (suc p) = refl
all-false (suc n) zero = refl
all-false (suc n) (suc p) = all-false n p

-- an array that has it of the first n bodies
abbrev pub Staged : List Code → Mark → ℕ → List Bool → Type 0
Staged bodies m n array = (p : ℕ) → get_or array p false ≡ stage bodies m n p

pub staged-none : (bodies : List Code) (m : Mark) → Staged bodies m 0 (replicate 8 false)
staged-none bodies m p = all-false 8 p ∙ sym (stage-none bodies m p)

-- and of body n, whose statement is P, too
pub staged-more : (bodies : List Code) (m : Mark) (n : ℕ) (array : List Bool) → Staged bodies m n array → n < length array
    → (P : Code) → P ≡ body_at bodies n → Known P → (b : Bool) → b ≡ any_marked m (λ p. get_or array p false) (preorder P)
    → Staged bodies m (n + 1) (set array n b)
staged-more bodies m n array h l P e g b eb p = go (ℕ_discrete p n)
  where
    go : Dec (p ≡ n) → get_or (set array n b) p false ≡ stage bodies m (n + 1) p
    go (yes q) =
        rw q
        (get_or-set_same array n b false l ∙ eb ∙ ap (λ (P : Code). any_marked m (λ p. get_or array p false) (preorder P)) e
        ∙ stage-new bodies m (λ p. get_or array p false) n h (rw e at g))
    go (no o) = get_or-set_other array n p b false o ∙ h p ∙ stage-old bodies m n p o
