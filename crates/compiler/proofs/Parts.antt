-- What the walk asks of the parts of a statement, from what the statement was given. Assumes nothing.
use mathlib.Core.Path.{◌≡◌, ◌∙◌}
use mathlib.Core.List.{List}
use Prim.Native.Nat.{ℕ, ◌+◌, ◌*◌, ◌≤◌, ◌<◌}
use native.Mathlib.Omega.{arith}
use lib.ListN.{length}
use Rattle.model.specs.Program.{Expr, Code, assign, assign_elem, seq, par, ite, while, repeat, loop, call}
use Rattle.model.specs.Numbering.{Wires, memory_wires, expr_count, past_switches, delay_count, walk_count, loop_exits}
use Rattle.laws.specs.Numbering.Lengths.{exit-ors}
use Rattle.laws.specs.Program.Fit.{FormedExpr, Formed, Earlier}
use Rattle.compiler.specs.declared.walk.Word.{Word}
use Rattle.compiler.specs.declared.walk.Place.{Place}
use Rattle.compiler.specs.Walk.{place, ExprReady, ExprDone, SwitchReady, Switched, assignments, all_exits, Owned, Ready, Done, Opened, waiting, ExitsReady}
use Rattle.compiler.proofs.Sizes.{some-exits}
use Rattle.compiler.proofs.Growth.{left}
use Rattle.compiler.proofs.Exits.{opened-waiting}

-- the switches' cells have small numbers
pub switch-low : {n c g t : ℕ} {E : Expr} {ws : Wires} {b a : List ℕ} → SwitchReady E c n → Switched ws E c g b a t → t + 2 ≤ 7043
switch-low r sw = omega (arith, r.room, r.expr.small, sw.switch)

module _ {M n : ℕ} {p : Place} where
  -- a part is ready where it stays within the whole
  module _ {S : Code} (r : Ready M S p n) where
    part : {P : Code} {q : Place} → Formed P → Earlier 8 P → q.delay + delay_count P ≤ q.cell → q.cell + walk_count P ≤ p.cell + walk_count S
        → q.mark + 4 * assignments P ≤ p.mark + 4 * assignments S → q.out + all_exits P ≤ p.out + all_exits S → Ready M P q n
    part w y a b k x =
        record {
          formed = w;
          earlier = y;
          memory = r.memory;
          apart = a;
          room = omega (arith, b, r.room);
          small = r.small;
          marks = omega (arith, k, r.marks);
          outs = omega (arith, x, r.outs);
        }

    expr-part : {E : Expr} {c : ℕ} → FormedExpr E → c + expr_count E ≤ p.cell + walk_count S → ExprReady E c n
    expr-part w b = record { formed = w; room = omega (arith, b, r.room); small = omega (arith, r.small) }

    switch-part : {E : Expr} → FormedExpr E → past_switches E p.cell ≤ p.cell + walk_count S → SwitchReady E p.cell n
    switch-part w b = record { expr = expr-part w (omega (arith, b)); room = omega (arith, b, r.room) }

    -- its delay cells lie within the list
    pub delays-fit : 6 * (p.delay + delay_count S) ≤ n
    delays-fit = omega (arith, r.apart, r.room)

    -- and so do an assignment's marks within theirs
    pub own-fits : delay_count S ≡ 2 → assignments S ≡ 1 → (6 * (p.delay + 2) ≤ n) × (n ≤ 3762) × (p.mark + 4 ≤ 800)
    own-fits d a = (omega (arith, d, delays-fit), r.small, omega (arith, a, r.marks))

  pub assign-expr : {δ x : ℕ} {E : Expr} → Ready M (assign δ x E) p n → ExprReady E p.cell n
  unfolding walk_count
  assign-expr r = expr-part r r.formed.2 (omega arith)

  -- its kind 41 cell lies within the list
  pub assign-cell : {δ x : ℕ} {E : Expr} {b a : List ℕ} {e : Word} → Ready M (assign δ x E) p n → ExprDone (memory_wires M) E p.cell b a e
      → 6 * e.cell + 6 ≤ n
  unfolding walk_count
  assign-cell r u = omega (arith, r.room, u.cell)

  module _ {δ v : ℕ} {I E : Expr} (r : Ready M (assign_elem δ v I E) p n) where
    pub element-index : ExprReady I p.cell n
    unfolding walk_count
    element-index = expr-part r r.formed.2 (omega arith)

    module _ {b a : List ℕ} {i : Word} (u : ExprDone (memory_wires M) I p.cell b a i) where
      pub element-value : ExprReady E i.cell n
      unfolding walk_count
      element-value = expr-part r r.formed.3 (omega (arith, u.cell))

      -- its kind 41 cells lie within the list
      pub element-cells : {b₂ a₂ : List ℕ} {e : Word} → ExprDone (memory_wires M) E i.cell b₂ a₂ e → 6 * (e.cell + 2) ≤ n
      unfolding walk_count
      element-cells w = omega (arith, r.room, u.cell, w.cell)

  -- a call's cells and marks lie within their lists, and its procedure is one of eight
  pub call_fits : {δ v : ℕ} → Ready M (call δ v) p n → (p.delay < p.cell) × (6 * p.cell + 6 ≤ n) × (n ≤ 3762) × (p.mark + 4 ≤ 800) × (v < 8)
  unfolding delay_count walk_count assignments
  call_fits r = (omega (arith, r.apart), omega (arith, r.room), r.small, r.marks, r.earlier.1)

  module _ {P Q : Code} where
    pub seq-first : Ready M (seq P Q) p n → Ready M P p n
    unfolding delay_count walk_count assignments all_exits
    seq-first r = part r r.formed.0 r.earlier.0 (omega (arith, r.apart)) (omega arith) (omega arith) (omega arith)

    pub seq-second : {pulse : ℕ} {F : ℕ → ℕ} {q : Place} {b a k l : List ℕ} → Ready M (seq P Q) p n → Done pulse M F P p b a k l q → Ready M Q q n
    unfolding delay_count walk_count assignments all_exits
    seq-second r u = rw (left u) (part r r.formed.1 r.earlier.1 (omega (arith, r.apart)) (omega arith) (omega arith) (omega (arith, some-exits P)))

    pub par-first : Ready M (par P Q) p n → Ready M P p n
    unfolding delay_count walk_count assignments all_exits
    par-first r = part r r.formed.0 r.earlier.0 (omega (arith, r.apart)) (omega arith) (omega arith) (omega arith)

    pub par-second : {pulse : ℕ} {F : ℕ → ℕ} {q : Place} {b a k l : List ℕ} → Ready M (par P Q) p n → Done pulse M F P p b a k l q
        → Ready M Q (place p.wire q.delay q.cell q.mark q.out) n
    unfolding delay_count walk_count assignments all_exits
    par-second r u = rw (left u) (part r r.formed.1 r.earlier.1 (omega (arith, r.apart)) (omega arith) (omega arith) (omega (arith, some-exits P)))

    pub par-merge : {pulse : ℕ} {F : ℕ → ℕ} {q s : Place} {b a k l b' a' k' l' : List ℕ} → Ready M (par P Q) p n → Done pulse M F P p b a k l q
        → Done pulse M F Q (place p.wire q.delay q.cell q.mark q.out) b' a' k' l' s → 6 * s.cell + 6 ≤ n
    unfolding walk_count
    par-merge r u v = omega (arith, r.room, u.cell, v.cell)

    module _ {δ : ℕ} {E : Expr} (r : Ready M (ite δ E P Q) p n) where
      pub if-switches : SwitchReady E p.cell n
      unfolding walk_count
      if-switches = switch-part r r.formed.1 (omega arith)

      module _ {g t : ℕ} {m₀ m₁ m₂ : List ℕ} {o : Word} (ow : Owned δ p.wire p.delay m₀ m₁ o) (sw : Switched (memory_wires M) E p.cell g m₁ m₂ t) where
        pub if-first : Ready M P (place t o.cell (t + 1 + 1) p.mark p.out) n
        unfolding delay_count walk_count assignments all_exits
        if-first = rw (sw.switch, ow.cell) (part r r.formed.2 r.earlier.2 (omega (arith, r.apart)) (omega arith) (omega arith) (omega arith))

        pub if-second : {pulse : ℕ} {F : ℕ → ℕ} {q : Place} {b a k l : List ℕ} → Done pulse M F P (place t o.cell (t + 1 + 1) p.mark p.out) b a k l q
            → Ready M Q (place (t + 1) q.delay q.cell q.mark q.out) n
        unfolding delay_count walk_count assignments all_exits
        if-second u₀ =
            let u = rw (sw.switch, ow.cell) at u₀ in
            rw (sw.switch, left u) (part r r.formed.3 r.earlier.3 (omega (arith, r.apart)) (omega arith) (omega arith) (omega (arith, some-exits P)))

        pub if-merge : {pulse : ℕ} {F : ℕ → ℕ} {q s : Place} {b a k l b' a' k' l' : List ℕ}
            → Done pulse M F P (place t o.cell (t + 1 + 1) p.mark p.out) b a k l q
            → Done pulse M F Q (place (t + 1) q.delay q.cell q.mark q.out) b' a' k' l' s → 6 * s.cell + 6 ≤ n
        unfolding walk_count
        if-merge u v = omega (arith, r.room, sw.switch, u.cell, v.cell)

  module _ {δ : ℕ} {E : Expr} {P : Code} where
    pub while-switches : Ready M (while δ E P) p n → SwitchReady E p.cell n
    unfolding walk_count
    while-switches r = switch-part r r.formed.1 (omega arith)

    pub while-body : {g t : ℕ} {m₁ m₂ : List ℕ} → Ready M (while δ E P) p n → Switched (memory_wires M) E p.cell g m₁ m₂ t
        → Ready M P (place t (p.delay + 1) (t + 1 + 1) p.mark p.out) n
    unfolding delay_count walk_count assignments all_exits
    while-body r sw = rw sw.switch (part r r.formed.2 r.earlier.2 (omega (arith, r.apart)) (omega arith) (omega arith) (omega arith))

    pub while-merge : {g t : ℕ} {pulse : ℕ} {F : ℕ → ℕ} {m₁ m₂ b a k l : List ℕ} {q : Place} → Ready M (while δ E P) p n → Switched (memory_wires M) E p.cell g m₁ m₂ t
        → Done pulse M F P (place t (p.delay + 1) (t + 1 + 1) p.mark p.out) b a k l q → 6 * q.cell + 6 ≤ n
    unfolding walk_count
    while-merge r sw u = omega (arith, r.room, sw.switch, u.cell)

    pub repeat-switches : Ready M (repeat δ E P) p n → SwitchReady E p.cell n
    unfolding walk_count
    repeat-switches r = switch-part r r.formed.1 (omega arith)

    pub repeat-body : {g t : ℕ} {m₁ m₂ : List ℕ} → Ready M (repeat δ E P) p n → Switched (memory_wires M) E p.cell g m₁ m₂ t
        → Ready M P (place (t + 1 + 1) (p.delay + 1) (t + 1 + 1 + 1) p.mark p.out) n
    unfolding delay_count walk_count assignments all_exits
    repeat-body r sw = rw sw.switch (part r r.formed.2 r.earlier.2 (omega (arith, r.apart)) (omega arith) (omega arith) (omega arith))

  module _ {δ : ℕ} {P : Code} (r : Ready M (loop δ P) p n) where
    pub loop-merge : 6 * p.cell + 6 ≤ n
    unfolding walk_count
    loop-merge = omega (arith, r.room)

    pub loop-body : Ready M P (place p.cell (p.delay + 1) (p.cell + 1) p.mark p.out) n
    unfolding delay_count walk_count assignments all_exits
    loop-body = part r r.formed.1 r.earlier.1 (omega (arith, r.apart)) (omega arith) (omega arith) (omega arith)

    -- the exits of its body wait behind those that waited before
    module _ {pulse : ℕ} {F : ℕ → ℕ} {q : Place} {b a k l o o' : List ℕ}
        (u : Done pulse M F P (place p.cell (p.delay + 1) (p.cell + 1) p.mark p.out) b a k l q)
        (v : Opened P (place p.cell (p.delay + 1) (p.cell + 1) p.mark p.out) o o') (h : length o ≡ 200) where
      pub loop-waits : waiting o' p.out q.out ≡ loop_exits P p.delay p.cell
      unfolding all_exits
      loop-waits = rw u.out (opened-waiting v (omega (arith, h, r.outs)))

      pub loop-exits : ExitsReady o' p.out q.out q.cell n
      unfolding walk_count all_exits
      loop-exits =
          let ors = exit-ors P p.cell (p.delay + 1) (p.cell + 1) in
          record {
            upward = omega (arith, u.out);
            most = omega (arith, u.out, some-exits P, r.outs);
            long = v.same ∙ h;
            room = rw loop-waits (omega (arith, ors, u.cell, r.room));
            small = r.small;
          }
