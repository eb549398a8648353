-- A statement's cells under a renumbering: where it shifts the statement's delay cells, its walk cells and the memories each by its own distance, keeps
-- ground, and takes the statement's start to another wire, the statement's cells become the cells that the statement has there.
-- Assumes nothing.
use mathlib.Core.Path.{◌≡◌, refl, ap, ap₂, ◌∙◌}
use mathlib.Core.List.{List, [], ◌∷◌, ◌++◌, map, map-append}
use Prim.Native.Nat.{ℕ, zero, suc, ◌+◌, ◌-◌, ◌<◌, ◌≤◌}
use native.Mathlib.Omega.{arith}
use lib.ListN.{length}
use Rattle.model.specs.declared.Cell.{Cell}
use Rattle.model.specs.Circuit.{cell, shape, cell_row, cell_table, names}
use Rattle.model.specs.Program.{Expr, const, var, compl, op, elem, array_var, Code, ok, tick, assign, assign_elem, seq, par, ite, while, repeat, loop, exit, call}
use Rattle.model.specs.Numbering.{Wires, expr_count, expr_wire, expr_cells, or_chain, or_chain_out, ors, ors_out, or_count, on_true, on_false, past_switches, switches, if_delay_count, if_delay_cells, if_pulse, delay_count, exit_count, walk_count, then_delays, else_delays, else_cells, exits_at, finish_wire, exit_wires, loop_exits, delays, walk}
use Rattle.laws.specs.Circuit.Shapes.{operator-shape}
use Rattle.laws.specs.Program.Fit.{FormedExpr, Formed, Earlier}
use Rattle.laws.specs.Numbering.Lengths.{exit-ors}
use Rattle.model.specs.CellSlices.{rewired}

-- f takes n wires from c on to those from c' on
pub record Shift (f : ℕ → ℕ) (c n c' : ℕ) : Type 0 where
  pub at : (j j' : ℕ) → (c ≤ j) × (j < c + n) × (j + c' ≡ j' + c) → f j ≡ j'

-- and so those of a part of them
part : {f : ℕ → ℕ} {c n c' : ℕ} → Shift f c n c' → {a m a' : ℕ} → (c ≤ a) × (a + m ≤ c + n) × (a + c' ≡ a' + c) → Shift f a m a'
part h l = record { at = λ j j' k. h.at j j' (omega arith) }

rewired-op : (f : ℕ → ℕ) (k a b : ℕ) → 4 ≤ k → k ≤ 9 → rewired f (cell k 0 a b) ≡ cell k 0 (f a) (f b)
unfolding rewired names cell_table
rewired-op f k a b h h' = rw (cell_row, operator-shape k h h') refl

module _ (f : ℕ → ℕ) where
  -- Ors ----------------------------------------------------------------------------------------------------------------------------------

  chain-out : (ws : List ℕ) (acc acc' n n' : ℕ) → f acc ≡ acc' → Shift f n (length ws) n' → f (or_chain_out acc n ws) ≡ or_chain_out acc' n' (map f ws)
  unfolding or_chain_out
  chain-out [] acc acc' n n' e h = e
  chain-out (w ∷ ws) acc acc' n n' e h = chain-out ws n n' (n + 1) (n' + 1) (h.at n n' (omega arith)) (part h (omega arith))

  ors-out : (ws : List ℕ) (none none' n n' : ℕ) → f none ≡ none' → Shift f n (or_count ws) n' → f (ors_out none n ws) ≡ ors_out none' n' (map f ws)
  unfolding ors_out or_count
  ors-out [] none none' n n' e h = e
  ors-out (w ∷ ws) none none' n n' e h = chain-out ws w (f w) n n' refl h

  chain-cells : (ws : List ℕ) (acc acc' n n' : ℕ) → f acc ≡ acc' → Shift f n (length ws) n'
      → map (rewired f) (or_chain 35 acc n ws) ≡ or_chain 35 acc' n' (map f ws)
  unfolding or_chain rewired shape names
  chain-cells [] acc acc' n n' e h = refl
  chain-cells (w ∷ ws) acc acc' n n' e h =
      ap₂ (λ (a : ℕ) (l : List Cell). cell 35 0 a (f w) ∷ l) e (chain-cells ws n n' (n + 1) (n' + 1) (h.at n n' (omega arith)) (part h (omega arith)))

  ors-cells : (ws : List ℕ) (n n' : ℕ) → Shift f n (or_count ws) n' → map (rewired f) (ors 35 n ws) ≡ ors 35 n' (map f ws)
  unfolding ors or_count
  ors-cells [] n n' h = refl
  ors-cells (w ∷ ws) n n' h = chain-cells ws w (f w) n n' refl h

  -- the ors of a loop's exits
  exit-shift : (P : Code) (s d c : ℕ) {n n' : ℕ} → Shift f n (exit_count P - 1) n' → Shift f n (or_count (exit_wires P s d c)) n'
  exit-shift P s d c h = rw (exit-ors P s d c) h

  module _ (ground : f 1 ≡ 1) where
    -- Finish wires and exits -----------------------------------------------------------------------------------------------------------------

    mutual
      unfolding finish_wire exit_wires delay_count walk_count

      pub finish-at : (P : Code) (s s' d d' c c' : ℕ) → f s ≡ s' → Shift f d (delay_count P) d' → Shift f c (walk_count P) c'
          → f (finish_wire P s d c) ≡ finish_wire P s' d' c'
      finish-at ok s s' d d' c c' e hd hc = e
      finish-at (tick δ) s s' d d' c c' e hd hc = hd.at d d' (omega arith)
      finish-at (assign δ x E) s s' d d' c c' e hd hc = hd.at (d + 1) (d' + 1) (omega arith)
      finish-at (assign_elem δ k I E) s s' d d' c c' e hd hc = hd.at (d + 1) (d' + 1) (omega arith)
      finish-at (seq P Q) s s' d d' c c' e hd hc =
          finish-at Q (finish_wire P s d c) (finish_wire P s' d' c') (d + delay_count P) (d' + delay_count P) (c + walk_count P) (c' + walk_count P)
          (finish-at P s s' d d' c c' e (part hd (omega arith)) (part hc (omega arith)))
          (part hd (omega arith)) (part hc (omega arith))
      finish-at (par P Q) s s' d d' c c' e hd hc = hc.at _ _ (omega arith)
      finish-at (ite δ E P Q) s s' d d' c c' e hd hc = hc.at _ _ (omega arith)
      finish-at (while δ E P) s s' d d' c c' e hd hc = hc.at _ _ (omega arith)
      finish-at (repeat δ E P) s s' d d' c c' e hd hc = hc.at _ _ (omega arith)
      finish-at (loop δ P) s s' d d' c c' e hd hc =
          ors-out (loop_exits P d c) 1 1 (exits_at P c) (exits_at P c') ground (exit-shift P c (d + 1) (c + 1) (part hc (omega arith)))
          ∙ ap (ors_out 1 (exits_at P c'))
          (exits-at P c c' (d + 1) (d' + 1) (c + 1) (c' + 1) (hc.at _ _ (omega arith)) (part hd (omega arith)) (part hc (omega arith)))
      finish-at exit s s' d d' c c' e hd hc = ground
      finish-at (call δ p) s s' d d' c c' e hd hc = hc.at _ _ (omega arith)

      pub exits-at : (P : Code) (s s' d d' c c' : ℕ) → f s ≡ s' → Shift f d (delay_count P) d' → Shift f c (walk_count P) c'
          → map f (exit_wires P s d c) ≡ exit_wires P s' d' c'
      exits-at ok s s' d d' c c' e hd hc = refl
      exits-at (tick δ) s s' d d' c c' e hd hc = refl
      exits-at (assign δ x E) s s' d d' c c' e hd hc = refl
      exits-at (assign_elem δ k I E) s s' d d' c c' e hd hc = refl
      exits-at (seq P Q) s s' d d' c c' e hd hc =
          map-append f (exit_wires P s d c) _
          ∙ ap₂ ◌++◌ (exits-at P s s' d d' c c' e (part hd (omega arith)) (part hc (omega arith)))
          (exits-at Q (finish_wire P s d c) (finish_wire P s' d' c') (d + delay_count P) (d' + delay_count P) (c + walk_count P) (c' + walk_count P)
          (finish-at P s s' d d' c c' e (part hd (omega arith)) (part hc (omega arith))) (part hd (omega arith)) (part hc (omega arith)))
      exits-at (par P Q) s s' d d' c c' e hd hc =
          map-append f (exit_wires P s d c) _
          ∙ ap₂ ◌++◌ (exits-at P s s' d d' c c' e (part hd (omega arith)) (part hc (omega arith)))
          (exits-at Q s s' (d + delay_count P) (d' + delay_count P) (c + walk_count P) (c' + walk_count P) e (part hd (omega arith)) (part hc (omega arith)))
      exits-at (ite δ E P Q) s s' d d' c c' e hd hc =
          map-append f (exit_wires P (on_true E c) (then_delays δ d) (past_switches E c)) _
          ∙ ap₂ ◌++◌
          (exits-at P (on_true E c) (on_true E c') (then_delays δ d) (then_delays δ d') (past_switches E c) (past_switches E c')
          (hc.at _ _ (omega arith)) (part hd (omega arith)) (part hc (omega arith)))
          (exits-at Q (on_false E c) (on_false E c') (else_delays δ P d) (else_delays δ P d') (else_cells E P c) (else_cells E P c')
          (hc.at _ _ (omega arith)) (part hd (omega arith)) (part hc (omega arith)))
      exits-at (while δ E P) s s' d d' c c' e hd hc =
          exits-at P (on_true E c) (on_true E c') (d + 1) (d' + 1) (past_switches E c) (past_switches E c')
          (hc.at _ _ (omega arith)) (part hd (omega arith)) (part hc (omega arith))
      exits-at (repeat δ E P) s s' d d' c c' e hd hc =
          exits-at P (past_switches E c) (past_switches E c') (d + 1) (d' + 1) (past_switches E c + 1) (past_switches E c' + 1)
          (hc.at _ _ (omega arith)) (part hd (omega arith)) (part hc (omega arith))
      exits-at (loop δ P) s s' d d' c c' e hd hc = refl
      exits-at exit s s' d d' c c' e hd hc = ap (λ (w : ℕ). w ∷ []) e
      exits-at (call δ p) s s' d d' c c' e hd hc = refl

    -- Delay cells -----------------------------------------------------------------------------------------------------------------------------

    -- an if's own delay, and the pulse that it switches
    own-cells : (δ s s' : ℕ) → f s ≡ s' → map (rewired f) (if_delay_cells δ s) ≡ if_delay_cells δ s'
    unfolding if_delay_cells rewired shape names
    own-cells zero s s' e = refl
    own-cells (suc δ) s s' e = rw e

    pulse-at : (δ s s' d d' : ℕ) → f s ≡ s' → Shift f d (if_delay_count δ) d' → f (if_pulse δ s d) ≡ if_pulse δ s' d'
    unfolding if_pulse if_delay_count
    pulse-at zero s s' d d' e h = e
    pulse-at (suc δ) s s' d d' e h = h.at d d' (omega arith)

    pub delays-at : (v : ℕ) (P : Code) (s s' d d' c c' : ℕ) → f s ≡ s' → Shift f d (delay_count P) d' → Shift f c (walk_count P) c'
        → map (rewired f) (delays v P s d c) ≡ delays v P s' d' c'
    unfolding delays delay_count walk_count rewired shape names
    delays-at v ok s s' d d' c c' e hd hc = refl
    delays-at v (tick δ) s s' d d' c c' e hd hc = rw e
    delays-at v (assign δ x E) s s' d d' c c' e hd hc =
        let h : f d ≡ d' = hd.at d d' (omega arith) in
        rw (e, h)
    delays-at v (assign_elem δ k I E) s s' d d' c c' e hd hc =
        let h : f d ≡ d' = hd.at d d' (omega arith) in
        rw (e, h)
    delays-at v (seq P Q) s s' d d' c c' e hd hc =
        let hdP : Shift f d (delay_count P) d' = part hd (omega arith) in
        let hcP : Shift f c (walk_count P) c' = part hc (omega arith) in
        map-append (rewired f) (delays v P s d c) _
        ∙ ap₂ ◌++◌ (delays-at v P s s' d d' c c' e hdP hcP)
        (delays-at v Q (finish_wire P s d c) (finish_wire P s' d' c') (d + delay_count P) (d' + delay_count P) (c + walk_count P) (c' + walk_count P)
        (finish-at P s s' d d' c c' e hdP hcP) (part hd (omega arith)) (part hc (omega arith)))
    delays-at v (par P Q) s s' d d' c c' e hd hc =
        map-append (rewired f) (delays v P s d c) _
        ∙ ap₂ ◌++◌
        (delays-at v P s s' d d' c c' e (part hd (omega arith)) (part hc (omega arith)))
        (delays-at v Q s s' (d + delay_count P) (d' + delay_count P) (c + walk_count P) (c' + walk_count P)
        e (part hd (omega arith)) (part hc (omega arith)))
    delays-at v (ite δ E P Q) s s' d d' c c' e hd hc =
        map-append (rewired f) (if_delay_cells δ s) _
        ∙ ap₂ ◌++◌ (own-cells δ s s' e)
        (map-append (rewired f) (delays v P (on_true E c) (then_delays δ d) (past_switches E c)) _
        ∙ ap₂ ◌++◌
        (delays-at v P (on_true E c) (on_true E c') (then_delays δ d) (then_delays δ d') (past_switches E c) (past_switches E c')
        (hc.at _ _ (omega arith)) (part hd (omega arith)) (part hc (omega arith)))
        (delays-at v Q (on_false E c) (on_false E c') (else_delays δ P d) (else_delays δ P d') (else_cells E P c) (else_cells E P c')
        (hc.at _ _ (omega arith)) (part hd (omega arith)) (part hc (omega arith))))
    delays-at v (while δ E P) s s' d d' c c' e hd hc =
        ap₂ (λ (w : ℕ) (l : List Cell). cell 34 δ w 0 ∷ l) (hc.at _ _ (omega arith))
        (delays-at v P (on_true E c) (on_true E c') (d + 1) (d' + 1) (past_switches E c) (past_switches E c')
        (hc.at _ _ (omega arith)) (part hd (omega arith)) (part hc (omega arith)))
    delays-at v (repeat δ E P) s s' d d' c c' e hd hc =
        let hdP : Shift f (d + 1) (delay_count P) (d' + 1) = part hd (omega arith) in
        let hcP : Shift f (past_switches E c + 1) (walk_count P) (past_switches E c' + 1) = part hc (omega arith) in
        let s₁ : f (past_switches E c) ≡ past_switches E c' = hc.at _ _ (omega arith) in
        ap₂ (λ (w : ℕ) (l : List Cell). cell 34 δ w 0 ∷ l)
        (finish-at P (past_switches E c) (past_switches E c') (d + 1) (d' + 1) (past_switches E c + 1) (past_switches E c' + 1) s₁ hdP hcP)
        (delays-at v P (past_switches E c) (past_switches E c') (d + 1) (d' + 1) (past_switches E c + 1) (past_switches E c' + 1) s₁ hdP hcP)
    delays-at v (loop δ P) s s' d d' c c' e hd hc =
        let hdP : Shift f (d + 1) (delay_count P) (d' + 1) = part hd (omega arith) in
        let hcP : Shift f (c + 1) (walk_count P) (c' + 1) = part hc (omega arith) in
        let s₁ : f c ≡ c' = hc.at _ _ (omega arith) in
        ap₂ (λ (w : ℕ) (l : List Cell). cell 34 δ w 0 ∷ l)
        (finish-at P c c' (d + 1) (d' + 1) (c + 1) (c' + 1) s₁ hdP hcP)
        (delays-at v P c c' (d + 1) (d' + 1) (c + 1) (c' + 1) s₁ hdP hcP)
    delays-at v exit s s' d d' c c' e hd hc = refl
    delays-at v (call δ p) s s' d d' c c' e hd hc = rw e

    -- The walk --------------------------------------------------------------------------------------------------------------------------------

    -- the wires of variables and arrays
    module _ (M M' : Wires) (mem : (x : ℕ) → x < 20 → f (M x) ≡ M' x) where
      expr-at : (E : Expr) → FormedExpr E → (c c' : ℕ) → Shift f c (expr_count E) c' → f (expr_wire M E c) ≡ expr_wire M' E c'
      unfolding expr_wire expr_count
      expr-at (const n) w c c' h = h.at _ _ (omega arith)
      expr-at (var x) w c c' h = mem x (omega arith)
      expr-at (compl E) w c c' h = h.at _ _ (omega arith)
      expr-at (op k E F) w c c' h = h.at _ _ (omega arith)
      expr-at (elem k E) w c c' h = h.at _ _ (omega arith)

      expr-cells : (E : Expr) → FormedExpr E → (c c' : ℕ) → Shift f c (expr_count E) c' → map (rewired f) (expr_cells M E c) ≡ expr_cells M' E c'
      unfolding expr_cells expr_count rewired shape names
      expr-cells (const n) w c c' h = refl
      expr-cells (var x) w c c' h = refl
      expr-cells (compl E) w c c' h =
          let hE : Shift f c (expr_count E) c' = part h (omega arith) in
          map-append (rewired f) (expr_cells M E c) _
          ∙ ap₂ (λ (l : List Cell) (a : ℕ). l ++ (cell 3 0 a 0 ∷ [])) (expr-cells E w c c' hE) (expr-at E w c c' hE)
      expr-cells (op k E F) w c c' h =
          let hE : Shift f c (expr_count E) c' = part h (omega arith) in
          let hF : Shift f (c + expr_count E) (expr_count F) (c' + expr_count E) = part h (omega arith) in
          map-append (rewired f) (expr_cells M E c) _
          ∙ ap₂ ◌++◌ (expr-cells E w.2 c c' hE)
          (map-append (rewired f) (expr_cells M F (c + expr_count E)) _
          ∙ ap₂ (λ (l : List Cell) (o : Cell). l ++ (o ∷ [])) (expr-cells F w.3 (c + expr_count E) (c' + expr_count E) hF)
          (rewired-op f k _ _ w.0 w.1 ∙ ap₂ (cell k 0) (expr-at E w.2 c c' hE) (expr-at F w.3 (c + expr_count E) (c' + expr_count E) hF)))
      expr-cells (elem k E) w c c' h =
          let hE : Shift f c (expr_count E) c' = part h (omega arith) in
          map-append (rewired f) (expr_cells M E c) _
          ∙ ap₂ (λ (l : List Cell) (o : Cell). l ++ (o ∷ [])) (expr-cells E w.1 c c' hE) (ap₂ (cell 44 0) (mem (array_var k) (omega arith)) (expr-at E w.1 c c' hE))

      switch-cells : (E : Expr) → FormedExpr E → (c c' p p' : ℕ) → Shift f c (expr_count E) c' → f p ≡ p' → (l l' : List Cell) → map (rewired f) l ≡ l'
          → map (rewired f) (switches M E p c l) ≡ switches M' E p' c' l'
      unfolding rewired shape names
      switch-cells E w c c' p p' h e l l' q =
          map-append (rewired f) (expr_cells M E c) _
          ∙ ap₂ ◌++◌ (expr-cells E w c c' h)
          (ap₂ (λ (a b : ℕ). cell 36 0 a b ∷ (cell 37 0 a b ∷ map (rewired f) l)) e (expr-at E w c c' h)
          ∙ ap (λ (r : List Cell). cell 36 0 p' (expr_wire M' E c') ∷ (cell 37 0 p' (expr_wire M' E c') ∷ r)) q)

      -- of a statement without calls
      module _ (F F' : ℕ → ℕ) where
        pub walk_at : (P : Code) → Formed P → Earlier 0 P → (s s' d d' c c' : ℕ) → f s ≡ s' → Shift f d (delay_count P) d' → Shift f c (walk_count P) c'
            → map (rewired f) (walk M F P s d c) ≡ walk M' F' P s' d' c'
        unfolding walk delay_count walk_count rewired shape names
        walk_at ok w n s s' d d' c c' e hd hc = refl
        walk_at (tick δ) w n s s' d d' c c' e hd hc = refl
        walk_at (assign δ x E) w n s s' d d' c c' e hd hc =
            let hE : Shift f c (expr_count E) c' = part hc (omega arith) in
            map-append (rewired f) (expr_cells M E c) _
            ∙ ap₂ ◌++◌ (expr-cells E w.2 c c' hE)
            (ap₂ (λ (a b : ℕ). cell 41 0 a b ∷ []) (hd.at d d' (omega arith)) (expr-at E w.2 c c' hE))
        walk_at (assign_elem δ k I E) w n s s' d d' c c' e hd hc =
            let hI : Shift f c (expr_count I) c' = part hc (omega arith) in
            let hE : Shift f (c + expr_count I) (expr_count E) (c' + expr_count I) = part hc (omega arith) in
            let h : f d ≡ d' = hd.at d d' (omega arith) in
            map-append (rewired f) (expr_cells M I c) _
            ∙ ap₂ ◌++◌ (expr-cells I w.2 c c' hI)
            (map-append (rewired f) (expr_cells M E (c + expr_count I)) _
            ∙ ap₂ ◌++◌ (expr-cells E w.3 (c + expr_count I) (c' + expr_count I) hE)
            (ap₂ (λ (u v : Cell). u ∷ (v ∷ [])) (ap₂ (cell 41 0) h (expr-at E w.3 (c + expr_count I) (c' + expr_count I) hE))
            (ap₂ (cell 41 0) h (expr-at I w.2 c c' hI))))
        walk_at (seq P Q) w n s s' d d' c c' e hd hc =
            let hdP : Shift f d (delay_count P) d' = part hd (omega arith) in
            let hcP : Shift f c (walk_count P) c' = part hc (omega arith) in
            map-append (rewired f) (walk M F P s d c) _
            ∙ ap₂ ◌++◌ (walk_at P w.0 n.0 s s' d d' c c' e hdP hcP)
            (walk_at Q w.1 n.1 (finish_wire P s d c) (finish_wire P s' d' c') (d + delay_count P) (d' + delay_count P) (c + walk_count P) (c' + walk_count P)
            (finish-at P s s' d d' c c' e hdP hcP) (part hd (omega arith)) (part hc (omega arith)))
        walk_at (par P Q) w n s s' d d' c c' e hd hc =
            let hdP : Shift f d (delay_count P) d' = part hd (omega arith) in
            let hcP : Shift f c (walk_count P) c' = part hc (omega arith) in
            let hdQ : Shift f (d + delay_count P) (delay_count Q) (d' + delay_count P) = part hd (omega arith) in
            let hcQ : Shift f (c + walk_count P) (walk_count Q) (c' + walk_count P) = part hc (omega arith) in
            map-append (rewired f) (walk M F P s d c) _
            ∙ ap₂ ◌++◌ (walk_at P w.0 n.0 s s' d d' c c' e hdP hcP)
            (map-append (rewired f) (walk M F Q s (d + delay_count P) (c + walk_count P)) _
            ∙ ap₂ ◌++◌ (walk_at Q w.1 n.1 s s' (d + delay_count P) (d' + delay_count P) (c + walk_count P) (c' + walk_count P) e hdQ hcQ)
            (ap₂ (λ (a b : ℕ). cell 38 0 a b ∷ []) (finish-at P s s' d d' c c' e hdP hcP)
            (finish-at Q s s' (d + delay_count P) (d' + delay_count P) (c + walk_count P) (c' + walk_count P) e hdQ hcQ)))
        walk_at (ite δ E P Q) w n s s' d d' c c' e hd hc =
            let hE : Shift f c (expr_count E) c' = part hc (omega arith) in
            let s₁ : f (on_true E c) ≡ on_true E c' = hc.at _ _ (omega arith) in
            let s₂ : f (on_false E c) ≡ on_false E c' = hc.at _ _ (omega arith) in
            let hdP : Shift f (then_delays δ d) (delay_count P) (then_delays δ d') = part hd (omega arith) in
            let hcP : Shift f (past_switches E c) (walk_count P) (past_switches E c') = part hc (omega arith) in
            let hdQ : Shift f (else_delays δ P d) (delay_count Q) (else_delays δ P d') = part hd (omega arith) in
            let hcQ : Shift f (else_cells E P c) (walk_count Q) (else_cells E P c') = part hc (omega arith) in
            switch-cells E w.1 c c' (if_pulse δ s d) (if_pulse δ s' d') hE (pulse-at δ s s' d d' e (part hd (omega arith))) _ _
            (map-append (rewired f) (walk M F P (on_true E c) (then_delays δ d) (past_switches E c)) _
            ∙ ap₂ ◌++◌ (walk_at P w.2 n.2 (on_true E c) (on_true E c') (then_delays δ d) (then_delays δ d') (past_switches E c) (past_switches E c') s₁ hdP hcP)
            (map-append (rewired f) (walk M F Q (on_false E c) (else_delays δ P d) (else_cells E P c)) _
            ∙ ap₂ ◌++◌ (walk_at Q w.3 n.3 (on_false E c) (on_false E c') (else_delays δ P d) (else_delays δ P d') (else_cells E P c) (else_cells E P c') s₂ hdQ hcQ)
            (ap₂ (λ (a b : ℕ). cell 35 0 a b ∷ [])
            (finish-at P (on_true E c) (on_true E c') (then_delays δ d) (then_delays δ d') (past_switches E c) (past_switches E c') s₁ hdP hcP)
            (finish-at Q (on_false E c) (on_false E c') (else_delays δ P d) (else_delays δ P d') (else_cells E P c) (else_cells E P c') s₂ hdQ hcQ))))
        walk_at (while δ E P) w n s s' d d' c c' e hd hc =
            let hE : Shift f c (expr_count E) c' = part hc (omega arith) in
            let s₁ : f (on_true E c) ≡ on_true E c' = hc.at _ _ (omega arith) in
            let hdP : Shift f (d + 1) (delay_count P) (d' + 1) = part hd (omega arith) in
            let hcP : Shift f (past_switches E c) (walk_count P) (past_switches E c') = part hc (omega arith) in
            switch-cells E w.1 c c' d d' hE (hd.at _ _ (omega arith)) _ _
            (map-append (rewired f) (walk M F P (on_true E c) (d + 1) (past_switches E c)) _
            ∙ ap₂ ◌++◌ (walk_at P w.2 n.2 (on_true E c) (on_true E c') (d + 1) (d' + 1) (past_switches E c) (past_switches E c') s₁ hdP hcP)
            (ap₂ (λ (a b : ℕ). cell 35 0 a b ∷ []) e (finish-at P (on_true E c) (on_true E c') (d + 1) (d' + 1) (past_switches E c) (past_switches E c') s₁ hdP hcP)))
        walk_at (repeat δ E P) w n s s' d d' c c' e hd hc =
            let hE : Shift f c (expr_count E) c' = part hc (omega arith) in
            let s₁ : f (on_false E c) ≡ on_false E c' = hc.at _ _ (omega arith) in
            switch-cells E w.1 c c' d d' hE (hd.at _ _ (omega arith)) _ _
            (ap₂ (λ (o : Cell) (l : List Cell). o ∷ l) (ap₂ (cell 35 0) e s₁)
            (walk_at P w.2 n.2 (past_switches E c) (past_switches E c') (d + 1) (d' + 1) (past_switches E c + 1) (past_switches E c' + 1)
            (hc.at _ _ (omega arith)) (part hd (omega arith)) (part hc (omega arith))))
        walk_at (loop δ P) w n s s' d d' c c' e hd hc =
            let hdP : Shift f (d + 1) (delay_count P) (d' + 1) = part hd (omega arith) in
            let hcP : Shift f (c + 1) (walk_count P) (c' + 1) = part hc (omega arith) in
            let s₁ : f c ≡ c' = hc.at _ _ (omega arith) in
            ap₂ (λ (o : Cell) (l : List Cell). o ∷ l) (ap₂ (cell 35 0) e (hd.at _ _ (omega arith)))
            (map-append (rewired f) (walk M F P c (d + 1) (c + 1)) _
            ∙ ap₂ ◌++◌ (walk_at P w.1 n.1 c c' (d + 1) (d' + 1) (c + 1) (c' + 1) s₁ hdP hcP)
            (ors-cells (loop_exits P d c) (exits_at P c) (exits_at P c') (exit-shift P c (d + 1) (c + 1) (part hc (omega arith)))
            ∙ ap (ors 35 (exits_at P c')) (exits-at P c c' (d + 1) (d' + 1) (c + 1) (c' + 1) s₁ hdP hcP)))
        walk_at exit w n s s' d d' c c' e hd hc = refl
        walk_at (call δ p) w n s s' d d' c c' e hd hc = absurd (omega arith)
