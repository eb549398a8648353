-- The structure theorem, first part: a statement's cells, wherever they stand, are a circuit of the statement.
use Rattle.std.specs.Prelude.{◌≡◌, ◌⊎◌, Bool, ◌&&◌, ◌||◌, not, [], ◌∷◌, ◌++◌}
use Rattle.std.proofs.Math.Path.{refl, sym, ap, ap₂}
use Rattle.std.proofs.Common.{◌∙◌, ⊎_elim}
use Rattle.std.proofs.Math.Logic.{inl, inr}
use Rattle.std.proofs.Math.Bool.{true, false}
use Prim.Native.Nat.{ℕ, zero, suc, ◌+◌, ◌<◌, ◌≤◌}
use Rattle.std.proofs.Math.Dec.{eqb}
use borrow.Author.Tests.{eq-eqb, ne_eqb, eqb-true, eqb-false}
use Rattle.std.specs.Int.Bits.{or_zero_r}
use Rattle.laws.specs.Numbering.Lengths.{e-len, own-len, d-len, w-len}
use Rattle.laws.specs.Circuit.Shapes.{operator-shape}
use Rattle.model.specs.Word.{pick}
use Rattle.model.specs.Program.{Expr, const, var, compl, op, elem, Code, ok, tick, assign, assign_elem, seq, par, ite, while, repeat, loop, exit, call, array_var}
use Rattle.model.specs.Circuit.{delayed, merge_step, return_step, merged}
use Rattle.theory.specs.Numbering.Ors.{ors-level}
use Rattle.theory.specs.Control.Returns.{returned-is}
use Rattle.theory.specs.Control.Wiring.{ideal, Circuit}
use Rattle.laws.specs.Program.Fit.{FormedExpr, Formed, Earlier, BasicExpr}
use Rattle.model.specs.Rules.{eval}
use Rattle.model.specs.Word.{operate, is_zero, index, element_word}
use Rattle.model.specs.Circuit.{cell}
use Rattle.model.specs.Numbering.{Wires, expr_count, expr_wire, expr_cells, if_delay_count, if_pulse, if_delay_cells, delay_count, walk_count, exits_at, finish_wire, exit_wires, loop_exits, delays, walk, clock_sources, data_sources, address_sources, call_sources, wires_of, ors}
use Rattle.model.specs.Circuit.{Sig, Values, Elements, level, Shape, equation}
use Rattle.model.specs.Word.{bit}
use Rattle.laws.specs.Numbering.Cells.{cell_val, Rule, Obeyed, split}
use Rattle.theory.specs.Numbering.Levels.{level-of, delayed-cong, delayed-zero, any_high, all_or, clk_of, dat_of, gives_at, joined, ||-false}

pub op-rule : (pulse : ℕ) (starts : Sig) (first : ℕ) (E : Elements) (W : Values) (p k x y t : ℕ) → 4 ≤ k → k ≤ 9 → cell_val pulse starts first E W p (cell k 0 x y) t ≡ operate k (W x t) (W y t)
unfolding cell_val
op-rule pulse starts first E W p k x y t h h' = ap (λ (sh : Shape). equation pulse sh starts first E W p (cell k 0 x y) t) (operator-shape k h h')

-- an expression's wire shows its word, where the wires that bring words show m's, and the arrays m's elements; one that reads no array needs none of these
module _ (pulse : ℕ) (starts : Sig) (first : ℕ → ℕ) (E : Elements) (W : Values) (M : Wires) (m : ℕ → ℕ → ℕ) (shows : (x t : ℕ) → x < 16 → m t x ≡ W (M x) t) where
  abbrev pub ShowsElements : Type 0
  ShowsElements = (k w t : ℕ) → k < 4 → m t (element_word k w) ≡ E (M (array_var k)) (index w) t

  pub expr-is : (e : Expr) → FormedExpr e → BasicExpr e ⊎ ShowsElements → (c : ℕ) → Obeyed pulse starts first E W c (expr_cells M e c) → (t : ℕ)
      → W (expr_wire M e c) t ≡ eval e (m t)
  unfolding expr_cells expr_wire expr_count eval cell_val
  expr-is (const n) w b c h t = h.0 t
  expr-is (var x) w b c h t = sym (shows x t w)
  expr-is (compl e) w b c h t =
      let r = split (Rule pulse starts first E W) c (expr_count e) (expr_cells M e c) (cell 3 0 (expr_wire M e c) 0 ∷ []) (e-len M e c) h in
      r.1.0 t ∙ ap (λ (x : ℕ). operate 3 x 0) (expr-is e w b c r.0 t)
  expr-is (op k e f) w b c h t =
      let cf = c + expr_count e in
      let o = cell k 0 (expr_wire M e c) (expr_wire M f cf) in
      let r = split (Rule pulse starts first E W) c (expr_count e) (expr_cells M e c) (expr_cells M f cf ++ (o ∷ [])) (e-len M e c) h in
      let q = split (Rule pulse starts first E W) cf (expr_count f) (expr_cells M f cf) (o ∷ []) (e-len M f cf) r.1 in
      q.1.0 t
      ∙ op-rule pulse starts (first (cf + expr_count f)) E W (cf + expr_count f) k (expr_wire M e c) (expr_wire M f cf) t w.0 w.1
      ∙ ap₂ (λ (x y : ℕ). operate k x y) (expr-is e w.2 (⊎_elim (λ z. inl z.0) inr b) c r.0 t)
      (expr-is f w.3 (⊎_elim (λ z. inl z.1) inr b) cf q.0 t)
  expr-is (elem k e) w (inl b) c h t = absurd b
  expr-is (elem k e) w (inr b) c h t =
      let j = M (array_var k) in
      let r = split (Rule pulse starts first E W) c (expr_count e) (expr_cells M e c) (cell 44 0 j (expr_wire M e c) ∷ []) (e-len M e c) h in
      r.1.0 t ∙ ap (λ (x : ℕ). E j (index x) t) (expr-is e w.1 (inr b) c r.0 t) ∙ sym (b k (eval e (m t)) t w.0)

module _ (pulse : ℕ) (starts : Sig) (first : ℕ → ℕ) (E : Elements) (W : Values) (M : Wires) (m : ℕ → ℕ → ℕ) (shows : (x t : ℕ) → x < 16 → m t x ≡ W (M x) t)
    (elements : ShowsElements pulse starts first E W M m shows)
    (ground : (t : ℕ) → level W 1 t ≡ false)
    (F : ℕ → ℕ) (ret : ℕ → Sig) (k : ℕ) (fin : (p t : ℕ) → p < k → level W (F p) t ≡ ret p t) where
  pub expr : (e : Expr) → FormedExpr e → (c : ℕ) → Obeyed pulse starts first E W c (expr_cells M e c) → (t : ℕ) → W (expr_wire M e c) t ≡ eval e (m t)
  expr e w c h t = expr-is pulse starts first E W M m shows e w (inr elements) c h t

  pub pulse-is : (δ s d : ℕ) → Obeyed pulse starts first E W d (if_delay_cells δ s) → (t : ℕ) → level W (if_pulse δ s d) t ≡ delayed δ (level W s) t
  unfolding if_delay_cells if_pulse cell_val
  pulse-is zero s d h t = sym (delayed-zero (level W s) t)
  pulse-is (suc δ) s d h t = level-of (delayed (suc δ) (level W s) t) (h.0 t)

  -- the statement's circuit from its start s, if its delay cells stand at d and its walk cells at c
  abbrev pub Cells : Code → ℕ → ℕ → ℕ → Type 0
  Cells P s d c = Circuit pulse (ideal m) ret P (level W s) (level W (finish_wire P s d c)) (gives_at W P s d c)

  -- the two switches
  pub yes-is : (k a b t : ℕ) {v : ℕ} {D : Bool} → W k t ≡ bit (level W a t && not (eqb (W b t) 0)) → level W a t ≡ D → W b t ≡ v → level W k t ≡ D && not (is_zero v)
  yes-is k a b t h p q = level-of (level W a t && not (eqb (W b t) 0)) h ∙ ap₂ (λ (x : Bool) (y : ℕ). x && not (eqb y 0)) p q

  pub no-is : (k a b t : ℕ) {v : ℕ} {D : Bool} → W k t ≡ bit (level W a t && eqb (W b t) 0) → level W a t ≡ D → W b t ≡ v → level W k t ≡ D && is_zero v
  no-is k a b t h p q = level-of (level W a t && eqb (W b t) 0) h ∙ ap₂ (λ (x : Bool) (y : ℕ). x && eqb y 0) p q

  -- an assignment's contributions
  pub own-clock : (x d y t : ℕ) → clk_of W ((x, d) ∷ []) y t ≡ pick (eqb y x) (level W d t) false
  unfolding wires_of any_high
  own-clock x d y t = go (eqb x y) refl
    where
      go : (b : Bool) → eqb x y ≡ b → any_high W (pick (eqb x y) (d ∷ []) []) t ≡ pick (eqb y x) (level W d t) false
      go true e = rw (e, eq-eqb y x (sym (eqb-true x y e))) (||-false (level W d t))
      go false e = rw (e, ne_eqb y x (λ z. eqb-false x y e (sym z)))

  pub own-data : (x g y t : ℕ) → dat_of W ((x, g) ∷ []) y t ≡ pick (eqb y x) (W g t) 0
  unfolding wires_of all_or
  own-data x g y t = go (eqb x y) refl
    where
      go : (b : Bool) → eqb x y ≡ b → all_or W (pick (eqb x y) (g ∷ []) []) t ≡ pick (eqb y x) (W g t) 0
      go true e = rw (e, eq-eqb y x (sym (eqb-true x y e))) (or_zero_r (W g t))
      go false e = rw (e, ne_eqb y x (λ z. eqb-false x y e (sym z)))

  -- a kind 41 on an assignment's first delay
  pub gated-is : (x g d k y t : ℕ) (D : Bool) (v : ℕ) → W g t ≡ pick (level W d t) (W k t) 0 → level W d t ≡ D → W k t ≡ v
      → dat_of W ((x, g) ∷ []) y t ≡ pick (eqb y x) (pick D v 0) 0
  gated-is x g d k y t D v h p q =
      own-data x g y t ∙ ap (λ (z : ℕ). pick (eqb y x) z 0) (h ∙ ap₂ (λ (b : Bool) (z : ℕ). pick b z 0) p q)

  pub no_address : (p q : Bool) → ◌≡◌ {A = ℕ} 0 (pick p (pick q 0 0) 0)
  no_address true true = refl
  no_address true false = refl
  no_address false q = refl

  unfoldable pub struct : (P : Code) → Formed P → Earlier k P → (s d c : ℕ)
      → Obeyed pulse starts first E W d (delays pulse P s d c) → Obeyed pulse starts first E W c (walk M F P s d c)
      → Cells P s d c
  unfolding Circuit delays walk finish_wire clock_sources data_sources address_sources call_sources cell_val delay_count walk_count any_high all_or wires_of
  struct ok w z s d c hd hw =
      record { fin = λ t. refl; clocks = λ y t. refl; words = λ y t. refl; addresses = λ y t. refl; called = λ q t. refl; out = λ t. refl }
  struct (tick δ) w z s d c hd hw =
      record {
        fin = λ t. level-of (delayed δ (level W s) t) (hd.0 t);
        clocks = λ y t. refl;
        words = λ y t. refl;
        addresses = λ y t. refl;
        called = λ q t. refl;
        out = λ t. refl;
      }
  struct (assign δ x e) w z s d c hd hw =
      let r = split (Rule pulse starts first E W) c (expr_count e) (expr_cells M e c) (cell 41 0 d (expr_wire M e c) ∷ []) (e-len M e c) hw in
      let D : (t : ℕ) → level W d t ≡ delayed δ (level W s) t = λ t. level-of (delayed δ (level W s) t) (hd.0 t) in
      record {
        fin = λ t. level-of (delayed pulse (level W d) t) (hd.1.0 t) ∙ delayed-cong pulse D t;
        clocks = λ y t. own-clock x d y t ∙ ap (λ (b : Bool). pick (eqb y x) b false) (D t);
        words = λ y t. gated-is x (c + expr_count e) d (expr_wire M e c) y t _ _ (r.1.0 t) (D t) (expr e w.2 c r.0 t);
        addresses = λ y t. no_address (eqb y x) (delayed δ (level W s) t);
        called = λ q t. refl;
        out = λ t. refl;
      }
  struct (assign_elem δ k i e) w z s d c hd hw =
      let x = array_var k in
      let ce = c + expr_count i in
      let cg = ce + expr_count e in
      let o = cell 41 0 d (expr_wire M e ce) in
      let o' = cell 41 0 d (expr_wire M i c) in
      let ri = split (Rule pulse starts first E W) c (expr_count i) (expr_cells M i c) (expr_cells M e ce ++ (o ∷ (o' ∷ []))) (e-len M i c) hw in
      let re = split (Rule pulse starts first E W) ce (expr_count e) (expr_cells M e ce) (o ∷ (o' ∷ [])) (e-len M e ce) ri.1 in
      let D : (t : ℕ) → level W d t ≡ delayed δ (level W s) t = λ t. level-of (delayed δ (level W s) t) (hd.0 t) in
      record {
        fin = λ t. level-of (delayed pulse (level W d) t) (hd.1.0 t) ∙ delayed-cong pulse D t;
        clocks = λ y t. own-clock x d y t ∙ ap (λ (b : Bool). pick (eqb y x) b false) (D t);
        words = λ y t. gated-is x cg d (expr_wire M e ce) y t _ _ (re.1.0 t) (D t) (expr e w.3 ce re.0 t);
        addresses = λ y t. gated-is x (cg + 1) d (expr_wire M i c) y t _ _ (re.1.1.0 t) (D t) (expr i w.2 c ri.0 t);
        called = λ q t. refl;
        out = λ t. refl;
      }
  struct (seq P Q) w z s d c hd hw =
      let g = finish_wire P s d c in
      let rd = split (Rule pulse starts first E W) d (delay_count P) (delays pulse P s d c) (delays pulse Q g (d + delay_count P) (c + walk_count P)) (d-len pulse P s d c) hd in
      let rc = split (Rule pulse starts first E W) c (walk_count P) (walk M F P s d c) (walk M F Q g (d + delay_count P) (c + walk_count P)) (w-len M F P s d c) hw in
      record {
        mid = level W g;
        g₁ = gives_at W P s d c;
        g₂ = gives_at W Q g (d + delay_count P) (c + walk_count P);
        left = struct P w.0 z.0 s d c rd.0 rc.0;
        right = struct Q w.1 z.1 g (d + delay_count P) (c + walk_count P) rd.1 rc.1;
        joined = joined W (clock_sources P d) (clock_sources Q (d + delay_count P)) (data_sources P c) (data_sources Q (c + walk_count P))
            (address_sources P c) (address_sources Q (c + walk_count P)) (call_sources P d) (call_sources Q (d + delay_count P))
            (exit_wires P s d c)
            (exit_wires Q g (d + delay_count P) (c + walk_count P));
      }
  struct (par P Q) w z s d c hd hw =
      let f = finish_wire P s d c in
      let g = finish_wire Q s (d + delay_count P) (c + walk_count P) in
      let rd = split (Rule pulse starts first E W) d (delay_count P) (delays pulse P s d c) (delays pulse Q s (d + delay_count P) (c + walk_count P)) (d-len pulse P s d c) hd in
      let rc = split (Rule pulse starts first E W) c (walk_count P) (walk M F P s d c) (walk M F Q s (d + delay_count P) (c + walk_count P) ++ (cell 38 0 f g ∷ [])) (w-len M F P s d c) hw in
      let rm = split (Rule pulse starts first E W) (c + walk_count P) (walk_count Q) (walk M F Q s (d + delay_count P) (c + walk_count P)) (cell 38 0 f g ∷ []) (w-len M F Q s (d + delay_count P) (c + walk_count P)) rc.1 in
      record {
        f₁ = level W f;
        g₁ = gives_at W P s d c;
        f₂ = level W g;
        g₂ = gives_at W Q s (d + delay_count P) (c + walk_count P);
        left = struct P w.0 z.0 s d c rd.0 rc.0;
        right = struct Q w.1 z.1 s (d + delay_count P) (c + walk_count P) rd.1 rm.0;
        joined = joined W (clock_sources P d) (clock_sources Q (d + delay_count P)) (data_sources P c) (data_sources Q (c + walk_count P))
            (address_sources P c) (address_sources Q (c + walk_count P)) (call_sources P d) (call_sources Q (d + delay_count P))
            (exit_wires P s d c)
            (exit_wires Q s (d + delay_count P) (c + walk_count P));
        fin = λ t. level-of (merged (merge_step (eqb pulse 1)) (level W f) (level W g) t) (rm.1.0 t);
      }
  struct (ite δ e P Q) w z s d c hd hw =
      let p = c + expr_count e in
      let dP = d + if_delay_count δ in
      let cP = p + 1 + 1 in
      let f = finish_wire P p dP cP in
      let g = finish_wire Q (p + 1) (dP + delay_count P) (cP + walk_count P) in
      let ro = split (Rule pulse starts first E W) d (if_delay_count δ) (if_delay_cells δ s) (delays pulse P p dP cP ++ delays pulse Q (p + 1) (dP + delay_count P) (cP + walk_count P)) (own-len δ s) hd in
      let rd = split (Rule pulse starts first E W) dP (delay_count P) (delays pulse P p dP cP) (delays pulse Q (p + 1) (dP + delay_count P) (cP + walk_count P)) (d-len pulse P p dP cP) ro.1 in
      let o6 = cell 36 0 (if_pulse δ s d) (expr_wire M e c) in
      let o7 = cell 37 0 (if_pulse δ s d) (expr_wire M e c) in
      let tail = walk M F Q (p + 1) (dP + delay_count P) (cP + walk_count P) ++ (cell 35 0 f g ∷ []) in
      let re = split (Rule pulse starts first E W) c (expr_count e) (expr_cells M e c) (o6 ∷ (o7 ∷ (walk M F P p dP cP ++ tail))) (e-len M e c) hw in
      let rP = split (Rule pulse starts first E W) cP (walk_count P) (walk M F P p dP cP) tail (w-len M F P p dP cP) re.1.1.1 in
      let rQ = split (Rule pulse starts first E W) (cP + walk_count P) (walk_count Q) (walk M F Q (p + 1) (dP + delay_count P) (cP + walk_count P)) (cell 35 0 f g ∷ []) (w-len M F Q (p + 1) (dP + delay_count P) (cP + walk_count P)) rP.1 in
      let D : (t : ℕ) → level W (if_pulse δ s d) t ≡ delayed δ (level W s) t = pulse-is δ s d ro.0 in
      let shown : (t : ℕ) → W (expr_wire M e c) t ≡ eval e (m t) = expr e w.1 c re.0 in
      record {
        s₁ = level W p;
        f₁ = level W f;
        g₁ = gives_at W P p dP cP;
        s₂ = level W (p + 1);
        f₂ = level W g;
        g₂ = gives_at W Q (p + 1) (dP + delay_count P) (cP + walk_count P);
        left = struct P w.2 z.2 p dP cP rd.0 rP.0;
        right = struct Q w.3 z.3 (p + 1) (dP + delay_count P) (cP + walk_count P) rd.1 rQ.0;
        joined = joined W (clock_sources P dP) (clock_sources Q (dP + delay_count P)) (data_sources P cP) (data_sources Q (cP + walk_count P))
            (address_sources P cP) (address_sources Q (cP + walk_count P)) (call_sources P dP) (call_sources Q (dP + delay_count P))
            (exit_wires P p dP cP)
            (exit_wires Q (p + 1) (dP + delay_count P) (cP + walk_count P));
        yes₁ = λ t. yes-is p (if_pulse δ s d) (expr_wire M e c) t (re.1.0 t) (D t) (shown t);
        no₂ = λ t. no-is (p + 1) (if_pulse δ s d) (expr_wire M e c) t (re.1.1.0 t) (D t) (shown t);
        fin = λ t. level-of (level W f t || level W g t) (rQ.1.0 t);
      }
  struct (while δ e P) w z s d c hd hw =
      let p = c + expr_count e in
      let cP = p + 1 + 1 in
      let f = finish_wire P p (d + 1) cP in
      let re = split (Rule pulse starts first E W) c (expr_count e) (expr_cells M e c) _ (e-len M e c) hw in
      let rP = split (Rule pulse starts first E W) cP (walk_count P) (walk M F P p (d + 1) cP) (cell 35 0 s f ∷ []) (w-len M F P p (d + 1) cP) re.1.1.1 in
      let D : (t : ℕ) → level W d t ≡ delayed δ (λ u. level W s u || level W f u) t =
      λ t. level-of (delayed δ (level W (cP + walk_count P)) t) (hd.0 t) ∙ delayed-cong δ (λ u. level-of (level W s u || level W f u) (rP.1.0 u)) t in
      let shown : (t : ℕ) → W (expr_wire M e c) t ≡ eval e (m t) = expr e w.1 c re.0 in
      record {
        s₁ = level W p;
        f₁ = level W f;
        body = struct P w.2 z.2 p (d + 1) cP hd.1 rP.0;
        begin = λ t. yes-is p d (expr_wire M e c) t (re.1.0 t) (D t) (shown t);
        fin = λ t. no-is (p + 1) d (expr_wire M e c) t (re.1.1.0 t) (D t) (shown t);
      }
  struct (repeat δ e P) w z s d c hd hw =
      let p = c + expr_count e in
      let cP = p + 1 + 1 + 1 in
      let f = finish_wire P (p + 1 + 1) (d + 1) cP in
      let re = split (Rule pulse starts first E W) c (expr_count e) (expr_cells M e c) _ (e-len M e c) hw in
      let D : (t : ℕ) → level W d t ≡ delayed δ (level W f) t = λ t. level-of (delayed δ (level W f) t) (hd.0 t) in
      let shown : (t : ℕ) → W (expr_wire M e c) t ≡ eval e (m t) = expr e w.1 c re.0 in
      record {
        s₁ = level W (p + 1 + 1);
        f₁ = level W f;
        body = struct P w.2 z.2 (p + 1 + 1) (d + 1) cP hd.1 re.1.1.1.1;
        begin = λ t. level-of (level W s t || level W (p + 1) t) (re.1.1.1.0 t) ∙ ap (λ (b : Bool). level W s t || b) (no-is (p + 1) d (expr_wire M e c) t (re.1.1.0 t) (D t) (shown t));
        fin = λ t. yes-is p d (expr_wire M e c) t (re.1.0 t) (D t) (shown t);
      }
  struct (loop δ P) w z s d c hd hw =
      let f = finish_wire P c (d + 1) (c + 1) in
      let r = split (Rule pulse starts first E W) (c + 1) (walk_count P) (walk M F P c (d + 1) (c + 1)) (ors 35 (exits_at P c) (loop_exits P d c)) (w-len M F P c (d + 1) (c + 1)) hw.1 in
      let D : (t : ℕ) → level W d t ≡ delayed δ (level W f) t = λ t. level-of (delayed δ (level W f) t) (hd.0 t) in
      record {
        s₁ = level W c;
        f₁ = level W f;
        g₁ = gives_at W P c (d + 1) (c + 1);
        body = struct P w.1 z.1 c (d + 1) (c + 1) hd.1 r.0;
        begin = λ t. level-of (level W s t || level W d t) (hw.0 t) ∙ ap (λ (b : Bool). level W s t || b) (D t);
        fin = ors-level pulse starts first E W ground (exits_at P c) (loop_exits P d c) r.1;
        clocks = λ y t. refl;
        words = λ y t. refl;
        addresses = λ y t. refl;
        called = λ q t. refl;
        out = λ t. refl;
      }
  struct exit w z s d c hd hw =
      record {
        fin = ground;
        clocks = λ y t. refl;
        words = λ y t. refl;
        addresses = λ y t. refl;
        called = λ q t. refl;
        out = λ t. ||-false (level W s t);
      }
  struct (call δ p) w z s d c hd hw =
      let D : level W d ≡ delayed δ (level W s) = λ i t. level-of (delayed δ (level W s) t) (hd.0 t) i in
      let B : level W (F p) ≡ ret p = λ i t. fin p t z.1 i in
      record {
        fin = λ t.
            level-of (merged (return_step (eqb pulse 1)) (level W d) (level W (F p)) t) (hw.0 t)
            ∙ ap₂ (λ (x y : Sig). merged (return_step (eqb pulse 1)) x y t) D B
            ∙ sym (returned-is pulse (delayed δ (level W s)) (ret p) t);
        clocks = λ y t. refl;
        words = λ y t. refl;
        addresses = λ y t. refl;
        called = λ q t. own-clock p d q t ∙ ap (λ (x : Sig). pick (eqb q p) (x t) false) D;
        out = λ t. refl;
      }
