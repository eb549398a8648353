-- A run of the rules that is done at a time that is another one, and a chain of two runs that goes on. Assumes nothing.
use Rattle.std.specs.Prelude.{ℕ, ◌≡◌}
use Rattle.std.proofs.Common.{sym, ◌∙◌, ap}
use Rattle.model.specs.Rules.{Store, Way, Run, done, ended, still, chain}
use Rattle.laws.specs.Rules.Laws.{by_runs, done-still, chain-still, chain-out}

pub at-time : (r : Run) {way : Way} {t t' : ℕ} {σ : Store} → t ≡ t' → r ≡ done way t σ → r ≡ done way t' σ
at-time r {way} {σ = σ} q p = p ∙ ap (λ (k : ℕ). done way k σ) q

-- the first run ended and the second goes on, or it goes on itself
pub chain-going : {A : Type 0} (r : Run) (c : ℕ → Store → Run) → chain r c ≡ still
    → ((t₁ : ℕ) (σ₁ : Store) → r ≡ ended t₁ σ₁ → c t₁ σ₁ ≡ still → A) → (r ≡ still → A) → A
chain-going r c p on off = by_runs r (λ t₁ σ₁ q. on t₁ σ₁ q (chain-still r c q p)) (λ t₁ σ₁ q. done-still (sym (chain-out r c q) ∙ p)) off
