-- Wires joined by ors, of levels and of words. Assumes nothing.
use Rattle.std.specs.Prelude.{◌≡◌, Bool, false, ◌||◌, ℕ, ◌+◌}
use Rattle.std.proofs.Math.Path.{sym, ap}
use Rattle.std.proofs.Common.{◌∙◌}
use mathlib.Core.List.{List, [], ◌∷◌}
use Rattle.std.specs.Int.Bits.{bit_or, or_zero_r}
use Rattle.model.specs.Circuit.{Sig, Values, Elements, level}
use Rattle.model.specs.Numbering.{or_chain, or_chain_out, ors, ors_out}
use Rattle.laws.specs.Numbering.Cells.{cell_val, Obeyed}
use Rattle.theory.specs.Numbering.Levels.{level-of, op-or, ||-assoc, ||-false, or_assoc, any_high, all_or}

module _ (pulse : ℕ) (starts : Sig) (first : ℕ → ℕ) (E : Elements) (W : Values) where
  chain-level : (acc n : ℕ) (ws : List ℕ) → Obeyed pulse starts first E W n (or_chain 35 acc n ws) → (t : ℕ)
      → level W (or_chain_out acc n ws) t ≡ level W acc t || any_high W ws t
  unfolding or_chain or_chain_out any_high cell_val
  chain-level acc n [] h t = sym (||-false (level W acc t))
  chain-level acc n (w ∷ ws) h t =
      chain-level n (n + 1) ws h.1 t
      ∙ ap (λ (b : Bool). b || any_high W ws t) (level-of (level W acc t || level W w t) (h.0 t))
      ∙ ||-assoc (level W acc t) (level W w t) (any_high W ws t)

  chain-word : (acc n : ℕ) (ws : List ℕ) → Obeyed pulse starts first E W n (or_chain 7 acc n ws) → (t : ℕ)
      → W (or_chain_out acc n ws) t ≡ bit_or (W acc t) (all_or W ws t)
  unfolding or_chain or_chain_out all_or cell_val
  chain-word acc n [] h t = sym (or_zero_r (W acc t))
  chain-word acc n (w ∷ ws) h t =
      chain-word n (n + 1) ws h.1 t
      ∙ ap (λ (b : ℕ). bit_or b (all_or W ws t)) (h.0 t ∙ op-or (W acc t) (W w t))
      ∙ or_assoc (W acc t) (W w t) (all_or W ws t)

  pub ors-level : ((t : ℕ) → level W 1 t ≡ false) → (n : ℕ) (ws : List ℕ) → Obeyed pulse starts first E W n (ors 35 n ws) → (t : ℕ)
      → level W (ors_out 1 n ws) t ≡ any_high W ws t
  unfolding ors ors_out any_high
  ors-level g n [] h t = g t
  ors-level g n (w ∷ ws) h t = chain-level w n ws h t

  pub ors-word : ((t : ℕ) → W 2 t ≡ 0) → (n : ℕ) (ws : List ℕ) → Obeyed pulse starts first E W n (ors 7 n ws) → (t : ℕ)
      → W (ors_out 2 n ws) t ≡ all_or W ws t
  unfolding ors ors_out all_or
  ors-word g n [] h t = g t
  ors-word g n (w ∷ ws) h t = chain-word w n ws h t
