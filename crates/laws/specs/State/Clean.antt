-- Bytes of a cell without a use: from byte 6 on only a delay's line is set and the start's remaining instants, and only merges hold bits. An instant
-- keeps it so.
-- Assumes nothing.
use Rattle.std.specs.Prelude.{Bool, List, ◌≡◌, ℕ, ◌+◌, ◌<◌, ◌≤◌, eqb, set, length}
use Rattle.std.proofs.Math.Bool.{true, false}
use Rattle.std.proofs.Common.{inl, inr, ◌∙◌}
use Rattle.std.proofs.Math.Path.{refl}
use native.Mathlib.Omega.{arith}
use Rattle.std.proofs.Math.Decide.{ℕ_discrete}
use Rattle.std.proofs.Math.ListN.{get_or, length-set}
use Rattle.std.proofs.Math.Seq.{get_or-set_same, get_or-set_other}
use borrow.Author.Tests.{eq-eqb}
use Rattle.model.specs.declared.Cell.{Cell}
use Rattle.model.specs.declared.Format.{Format}
use Rattle.model.specs.declared.Merge.{Merge}
use Rattle.model.specs.Word.{pick, bit}
use Rattle.model.specs.Circuit.{Netlist, cell_at, high, remaining_step, merge_step, short_return, long_return, return_step, merges, Shape, k_constant, k_complement, k_operator, k_start, k_ground, k_delay, k_or, k_when_true, k_when_false, k_merge, k_return, k_memory, k_gated, k_array, k_address, k_read, k_latch, k_unknown}
use Rattle.model.specs.State.{cell_size, base, now_at, before_at, held_at, remaining_byte, remaining_at, holding, settle}
use Rattle.laws.specs.Refusals.Laws.{by_bool}
use Rattle.laws.specs.Circuit.Shapes.{start-kind, delay-kind, merge-kind, return-kind, bit_le}
use Rattle.laws.specs.State.Lines.{least, behind, remaining-from, Spare, taken-frame, taken-spare}
use Rattle.laws.specs.State.Passes.{shape_at, holding-frame, three, length_three, after, third_at, third-own}

module _ (F : Format) where
  -- how large held bit j of a cell of this kind may be: "held b never set" in a 39
  abbrev pub most_held : ℕ → ℕ → ℕ → ℕ
  most_held kind k j = bit (pick (eqb j (base F k + 4)) (merges kind) (eqb kind 38))

  -- from byte 6 of a cell on, only a delay's line is set and the start's remaining instants; held bits are 0 or 1, and 0 where the cell holds none
  pub record Clean (net : Netlist) (s : List ℕ) (k : ℕ) : Type 0 where
    pub rest : (j : ℕ) → base F k + 6 ≤ j → j < base F k + cell_size F → ((cell_at net.cells k).kind ≡ 34 → Spare F k j)
        → ((cell_at net.cells k).kind ≡ 32 → j ≡ remaining_byte F k → ⊥) → get_or s j 0 ≡ 0
    pub bits : (j : ℕ) → base F k + 4 ≤ j → j < base F k + 6 → get_or s j 0 ≤ most_held (cell_at net.cells k).kind k j

  settle-rest : (w : ℕ) (sh : Shape) (t : List ℕ) (k : ℕ) (c : Cell) (j : ℕ) → base F k + 6 ≤ j → (sh ≡ k_delay → Spare F k j)
      → (sh ≡ k_start → j ≡ remaining_byte F k → ⊥) → get_or (settle F w sh t k c) j 0 ≡ get_or t j 0
  unfolding settle
  settle-rest w k_constant t k c j h g f = refl
  settle-rest w k_complement t k c j h g f = refl
  settle-rest w k_operator t k c j h g f = refl
  settle-rest w k_start t k c j h g f = get_or-set_other t (remaining_byte F k) j _ 0 (f refl)
  settle-rest w k_ground t k c j h g f = refl
  settle-rest w k_delay t k c j h g f = taken-spare t k c.delay _ F j (g refl)
  settle-rest w k_or t k c j h g f = refl
  settle-rest w k_when_true t k c j h g f = refl
  settle-rest w k_when_false t k c j h g f = refl
  settle-rest w k_merge t k c j h g f = holding-frame F t k _ j (inr h)
  settle-rest w k_return t k c j h g f = holding-frame F t k _ j (inr h)
  settle-rest w k_memory t k c j h g f = refl
  settle-rest w k_gated t k c j h g f = refl
  settle-rest w k_array t k c j h g f = refl
  settle-rest w k_address t k c j h g f = refl
  settle-rest w k_read t k c j h g f = refl
  settle-rest w k_latch t k c j h g f = refl
  settle-rest w k_unknown t k c j h g f = refl

  held-bits : (t : List ℕ) (k : ℕ) (m : Merge) (j : ℕ) → base F k + 6 ≤ length t → base F k + 4 ≤ j → j < base F k + 6 → get_or (holding F t k m) j 0 ≤ 1
  unfolding holding
  held-bits t k m j r h g = go (ℕ_discrete j (base F k + 5))
    where
      go : Dec (j ≡ base F k + 5) → get_or (set (set t (base F k + 4) (bit m.a)) (base F k + 5) (bit m.b)) j 0 ≤ 1
      go (yes e) =
          rw (e, get_or-set_same (set t (base F k + 4) (bit m.a)) (base F k + 5) (bit m.b) 0 (simp length-set (omega arith))) (bit_le m.b)
      go (no n) =
          let e : j ≡ base F k + 4 = omega arith in
          rw (e, get_or-set_other (set t (base F k + 4) (bit m.a)) (base F k + 5) (base F k + 4) (bit m.b) 0 (λ x. omega arith), get_or-set_same t (base F k + 4) (bit m.a) 0 (omega arith))
          (bit_le m.a)

  -- a 39 holds no b
  no-b : (one was : Bool) (m : Merge) (x y : Bool) → (return_step one was m x y).held.b ≡ false
  unfolding return_step short_return long_return
  no-b true was m x y = refl
  no-b false was m x y = refl

  settle-bits : (w : ℕ) (sh : Shape) (t : List ℕ) (k : ℕ) (c : Cell) (j B : ℕ) → base F k + 6 ≤ length t → base F k + 4 ≤ j → j < base F k + 6 → get_or t j 0 ≤ B
      → (sh ≡ k_merge → B ≡ 1) → (sh ≡ k_return → j ≡ base F k + 4 → B ≡ 1) → get_or (settle F w sh t k c) j 0 ≤ B
  unfolding settle
  settle-bits w k_constant t k c j B r h g l e f = l
  settle-bits w k_complement t k c j B r h g l e f = l
  settle-bits w k_operator t k c j B r h g l e f = l
  settle-bits w k_start t k c j B r h g l e f =
      rw (get_or-set_other t (remaining_byte F k) j (remaining_step w (remaining_at F t k) (high (now_at F t k))) 0 (λ q. omega (arith, remaining-from F k))) l
  settle-bits w k_ground t k c j B r h g l e f = l
  settle-bits w k_delay t k c j B r h g l e f = rw (taken-frame t k c.delay (high (now_at F t c.a)) F j (inl g)) l
  settle-bits w k_or t k c j B r h g l e f = l
  settle-bits w k_when_true t k c j B r h g l e f = l
  settle-bits w k_when_false t k c j B r h g l e f = l
  settle-bits w k_merge t k c j B r h g l e f = rw (e refl) (held-bits t k (merge_step (eqb w 1) (high (before_at F t k)) (held_at F t k) (high (now_at F t c.a)) (high (now_at F t c.b))).held j r h g)
  settle-bits w k_return t k c j B r h g l e f = go (ℕ_discrete j (base F k + 5))
    where
      m : Merge
      m = (return_step (eqb w 1) (high (before_at F t k)) (held_at F t k) (high (now_at F t c.a)) (high (now_at F t c.b))).held

      go : Dec (j ≡ base F k + 5) → get_or (holding F t k m) j 0 ≤ B
      go (yes q) = unfold holding bit in
          rw (q, no-b (eqb w 1) (high (before_at F t k)) (held_at F t k) (high (now_at F t c.a)) (high (now_at F t c.b)), get_or-set_same (set t (base F k + 4) (bit m.a)) (base F k + 5) 0 0 (simp length-set (omega arith)))
          (omega arith)
      go (no n) = rw (f refl (omega arith)) (held-bits t k m j r h g)
  settle-bits w k_memory t k c j B r h g l e f = l
  settle-bits w k_gated t k c j B r h g l e f = l
  settle-bits w k_array t k c j B r h g l e f = l
  settle-bits w k_address t k c j B r h g l e f = l
  settle-bits w k_read t k c j B r h g l e f = l
  settle-bits w k_latch t k c j B r h g l e f = l
  settle-bits w k_unknown t k c j B r h g l e f = l

  one_bit : (kind k j : ℕ) → kind ≡ 38 → most_held kind k j ≡ 1
  unfolding bit merges
  one_bit kind k j e = by_bool (eqb j (base F k + 4)) (λ z. rw (z, e)) (λ z. rw (z, e))

  first_bit : (kind k j : ℕ) → kind ≡ 39 → j ≡ base F k + 4 → most_held kind k j ≡ 1
  unfolding bit merges
  first_bit kind k j e z = rw (e, eq-eqb j (base F k + 4) z)

  -- the passes keep bytes without a use
  module _ (net : Netlist) (v : List ℕ → ℕ → ℕ) (u : List ℕ) (room : base F (length net.cells) ≤ length u) (k : ℕ) (l : k < length net.cells) where
    pub clean_after : Clean net u k → Clean net (after F net v u) k
    clean_after d =
        record {
          rest = λ j x y z q.
              third_at F net v u k j l (omega arith) y
              ∙ settle-rest net.pulse (shape_at net k) (three F net v u k) k (cell_at net.cells k) j x (λ e. z (delay-kind _ e)) (λ e. q (start-kind _ e))
              ∙ third-own F net v u k j l (omega arith) y
              ∙ d.rest j x y z q;
          bits = λ j x y.
              rw (third_at F net v u k j l (omega arith) (omega (arith, least F)))
              (settle-bits net.pulse (shape_at net k) (three F net v u k) k (cell_at net.cells k) j (most_held (cell_at net.cells k).kind k j) (rw (length_three F net v u k) (omega (arith, behind F k (length net.cells) l))) x y
              (rw (third-own F net v u k j l (omega arith) (omega (arith, least F))) (d.bits j x y)) (λ e. one_bit _ k j (merge-kind _ e)) (λ e q. first_bit _ k j (return-kind _ e) q));
        }
