-- What the walk of a statement leaves, kind by kind, from what it leaves of the parts. Assumes nothing.
use mathlib.Core.Path.{◌≡◌, refl}
use mathlib.Core.List.{List, [], ◌∷◌, append_assoc}
use Prim.Native.Nat.{ℕ, ◌+◌, ◌≤◌}
use native.Mathlib.Omega.{arith}
use lib.ListN.{length, length-append}
use lib.Seq.{sets}
use Rattle.model.specs.Program.{Expr, Code, ok, tick, assign, assign_elem, seq, par, ite, while, repeat, loop, exit, call, array_var}
use Rattle.model.specs.Circuit.{cell}
use Rattle.model.specs.Numbering.{memory_wires, expr_count, past_switches, switches, if_pulse, ors, delay_count, exit_count, exits_at, loop_exits, finish_wire, delays, walk}
use Rattle.laws.specs.Numbering.Lengths.{e-len, ors-len, own-len}
use Rattle.compiler.specs.declared.walk.Word.{Word}
use Rattle.compiler.specs.declared.walk.Place.{Place}
use Rattle.compiler.specs.Writes.{write}
use Rattle.compiler.specs.Walk.{place, ExprDone, Switched, marks_of, Owned, Done, ExitsJoined}
use Rattle.compiler.proofs.Writes.{behind}
use Rattle.compiler.proofs.Growth.{left, grown-none, grow-delay, grow-walk, grow-marks, grow-part, grow-front, closed}

-- Statements without parts -------------------------------------------------------------------------------------------------------------

module _ {pulse M : ℕ} {F : ℕ → ℕ} {p : Place} {before marked : List ℕ} where
  pub ok-done : Done pulse M F ok p before before marked marked p
  unfolding delays walk marks_of finish_wire exit_count
  ok-done = closed grown-none refl refl refl (omega arith) refl

  pub tick-done : {δ : ℕ} {end : List ℕ} {r : Place} → p.delay + delay_count (tick δ) ≤ p.cell → end ≡ write p.delay (cell 34 δ p.wire 0 ∷ []) before
      → r ≡ place p.delay (p.delay + 1) p.cell p.mark p.out
      → Done pulse M F (tick δ) p before end marked marked r
  unfolding delays walk marks_of finish_wire delay_count exit_count
  tick-done h w l = closed (grow-delay grown-none _ refl h w) refl refl refl (rw l (omega arith)) (rw l refl)

  pub assign-done : {δ x : ℕ} {E : Expr} {m₁ m₂ end remarked : List ℕ} {e : Word} {r : Place} → p.delay + delay_count (assign δ x E) ≤ p.cell
      → ExprDone (memory_wires M) E p.cell before m₁ e
      → m₂ ≡ write e.cell (cell 41 0 p.delay e.wire ∷ []) m₁
      → end ≡ write p.delay (cell 34 δ p.wire 0 ∷ cell 34 pulse p.delay 0 ∷ []) m₂
      → remarked ≡ sets marked p.mark (x ∷ p.delay ∷ e.cell ∷ 0 ∷ [])
      → r ≡ place (p.delay + 1) (p.delay + 2) (e.cell + 1) (p.mark + 4) p.out
      → Done pulse M F (assign δ x E) p before end marked remarked r
  unfolding delays walk marks_of finish_wire delay_count exit_count
  assign-done {δ} {x} {E} h u a b k l =
      let c = p.cell in
      let z = grown-none {d = p.delay} {c = c} {k = p.mark} {before = before} {marked = marked} in
      let e = grow-walk (grow-walk z _ (behind c (e-len (memory_wires M) E c)) u.cells) _ refl (rw (u.cell, u.wire) at a) in
      let m = grow-marks (grow-delay e _ refl h b) (x ∷ p.delay ∷ (c + expr_count E) ∷ 0 ∷ []) refl (rw u.cell at k) in
      closed m refl refl refl (rw l (omega arith)) (rw l (rw u.cell refl))

  pub element-done : {δ v : ℕ} {I E : Expr} {m₁ m₂ m₃ m₄ end remarked : List ℕ} {i e : Word} {r : Place}
      → p.delay + delay_count (assign_elem δ v I E) ≤ p.cell
      → ExprDone (memory_wires M) I p.cell before m₁ i
      → ExprDone (memory_wires M) E i.cell m₁ m₂ e
      → m₃ ≡ write e.cell (cell 41 0 p.delay e.wire ∷ []) m₂
      → m₄ ≡ write (e.cell + 1) (cell 41 0 p.delay i.wire ∷ []) m₃
      → end ≡ write p.delay (cell 34 δ p.wire 0 ∷ cell 34 pulse p.delay 0 ∷ []) m₄
      → remarked ≡ sets marked p.mark (array_var v ∷ p.delay ∷ e.cell ∷ (e.cell + 1) ∷ [])
      → r ≡ place (p.delay + 1) (p.delay + 2) (e.cell + 1 + 1) (p.mark + 4) p.out
      → Done pulse M F (assign_elem δ v I E) p before end marked remarked r
  unfolding delays walk marks_of finish_wire delay_count exit_count
  element-done {δ} {v} {I} {E} h u w₀ a₁ a₂ b k l =
      let c = p.cell in
      let c₂ = c + expr_count I in
      let w = rw u.cell at w₀ in
      let z = grown-none {d = p.delay} {c = c} {k = p.mark} {before = before} {marked = marked} in
      let e = grow-walk (grow-walk z _ (behind c (e-len (memory_wires M) I c)) u.cells) _ (behind c₂ (e-len (memory_wires M) E c₂)) w.cells in
      let f = grow-walk (grow-walk e _ refl (rw (w.cell, w.wire) at a₁)) _ refl (rw (w.cell, u.wire) at a₂) in
      let m = grow-marks (grow-delay f _ refl h b) (array_var v ∷ p.delay ∷ (c₂ + expr_count E) ∷ (c₂ + expr_count E + 1) ∷ []) refl (rw w.cell at k) in
      closed m refl (simp append_assoc) refl (rw l (omega arith)) (rw l (rw w.cell refl))

  pub exit-done : {r : Place} → r ≡ place 1 p.delay p.cell p.mark (p.out + 1) → Done pulse M F exit p before before marked marked r
  unfolding delays walk marks_of finish_wire exit_count
  exit-done e = rw e (closed grown-none refl refl refl refl refl)

  pub call-done : {δ v : ℕ} {end remarked : List ℕ} {r : Place} → p.delay + delay_count (call δ v) ≤ p.cell
      → end ≡ write p.cell (cell 39 0 p.delay (F v) ∷ []) (write p.delay (cell 34 δ p.wire 0 ∷ []) before)
      → remarked ≡ sets marked p.mark ((20 + v) ∷ p.delay ∷ 0 ∷ 0 ∷ [])
      → r ≡ place p.cell (p.delay + 1) (p.cell + 1) (p.mark + 4) p.out
      → Done pulse M F (call δ v) p before end marked remarked r
  unfolding delays walk marks_of finish_wire delay_count exit_count
  call-done h w k l =
      closed (grow-marks (grow-walk (grow-delay grown-none _ refl h refl) _ refl w) _ refl k) refl refl refl (rw l (omega arith)) (rw l refl)

-- Statements with parts ----------------------------------------------------------------------------------------------------------------

after-switches : (M g : ℕ) (E : Expr) (c : ℕ) → past_switches E c ≡ c + length (switches (memory_wires M) E g c [])
after-switches M g E c = simp (length-append, e-len (memory_wires M) E c) (omega arith)

module _ {pulse M : ℕ} {F : ℕ → ℕ} {P Q : Code} {p q r : Place} {before m₁ m₂ marked k₁ k₂ : List ℕ} where
  pub seq-done : p.delay + delay_count (seq P Q) ≤ p.cell → Done pulse M F P p before m₁ marked k₁ q → Done pulse M F Q q m₁ m₂ k₁ k₂ r
      → Done pulse M F (seq P Q) p before m₂ marked k₂ r
  unfolding delays walk marks_of finish_wire delay_count exit_count
  seq-done h u v₀ =
      let v = rw (left u) at v₀ in
      closed (grow-part (grow-part grown-none (omega arith) u) (omega arith) v) refl refl refl (omega (arith, v.out)) (rw (left v) refl)

  pub par-done : {end : List ℕ} → p.delay + delay_count (par P Q) ≤ p.cell → Done pulse M F P p before m₁ marked k₁ q
      → Done pulse M F Q (place p.wire q.delay q.cell q.mark q.out) m₁ m₂ k₁ k₂ r
      → end ≡ write r.cell (cell 38 0 q.wire r.wire ∷ []) m₂
      → Done pulse M F (par P Q) p before end marked k₂ (place r.cell r.delay (r.cell + 1) r.mark r.out)
  unfolding delays walk marks_of finish_wire delay_count exit_count
  par-done h u v₀ a =
      let v = rw (left u) at v₀ in
      let g = grow-part (grow-part grown-none (omega arith) u) (omega arith) v in
      closed (grow-walk g _ refl (rw (left v, u.wire) at a)) refl (simp append_assoc) refl (omega (arith, v.out)) (rw (left v) refl)

  pub if-done : {δ t : ℕ} {E : Expr} {start m₀ end : List ℕ} {o : Word} → p.delay + delay_count (ite δ E P Q) ≤ p.cell
      → Owned δ p.wire p.delay start m₀ o
      → Switched (memory_wires M) E p.cell o.wire m₀ before t
      → Done pulse M F P (place t o.cell (t + 1 + 1) p.mark p.out) before m₁ marked k₁ q
      → Done pulse M F Q (place (t + 1) q.delay q.cell q.mark q.out) m₁ m₂ k₁ k₂ r
      → end ≡ write r.cell (cell 35 0 q.wire r.wire ∷ []) m₂
      → Done pulse M F (ite δ E P Q) p start end marked k₂ (place r.cell r.delay (r.cell + 1) r.mark r.out)
  unfolding delays walk marks_of finish_wire delay_count exit_count
  if-done {δ} {E = E} {start} h ow sw₀ u₀ v₀ a =
      let w = p.wire in
      let d = p.delay in
      let c = p.cell in
      let sw = rw ow.wire at sw₀ in
      let u = rw (sw.switch, ow.cell) at u₀ in
      let v = rw (sw.switch, left u) at v₀ in
      let z = grown-none {d = d} {c = c} {k = p.mark} {before = start} {marked = marked} in
      let o = grow-delay z _ (behind d (own-len δ w)) (omega arith) ow.cells in
      let s = grow-walk o _ (after-switches M (if_pulse δ w d) E c) sw.cells in
      let g = grow-part (grow-part s (omega arith) u) (omega arith) v in
      closed (grow-walk g _ refl (rw (left v, u.wire) at a)) (simp append_assoc) (simp append_assoc) refl (omega (arith, v.out)) (rw (left v) refl)

-- loops: the body's delay cells come after the loop's own, which is put in last
module _ {pulse M δ t : ℕ} {F : ℕ → ℕ} {E : Expr} {P : Code} {p q : Place} {before m₁ m₂ m₃ end marked k₁ : List ℕ} where
  pub while-done : p.delay + delay_count (while δ E P) ≤ p.cell
      → Switched (memory_wires M) E p.cell p.delay before m₁ t
      → Done pulse M F P (place t (p.delay + 1) (t + 1 + 1) p.mark p.out) m₁ m₂ marked k₁ q
      → m₃ ≡ write q.cell (cell 35 0 p.wire q.wire ∷ []) m₂
      → end ≡ write p.delay (cell 34 δ q.cell 0 ∷ []) m₃
      → Done pulse M F (while δ E P) p before end marked k₁ (place (t + 1) q.delay (q.cell + 1) q.mark q.out)
  unfolding delays walk marks_of finish_wire delay_count exit_count
  while-done h sw u₀ a b =
      let u = rw sw.switch at u₀ in
      let s = grow-walk grown-none _ (after-switches M p.delay E p.cell) sw.cells in
      let g = grow-walk (grow-part s (omega arith) u) _ refl (rw (left u) at a) in
      closed (grow-front g (omega arith) (rw (left u) at b)) refl (simp append_assoc) refl u.out (rw (sw.switch, left u) refl)

  pub repeat-done : p.delay + delay_count (repeat δ E P) ≤ p.cell
      → Switched (memory_wires M) E p.cell p.delay before m₁ t
      → m₂ ≡ write (t + 1 + 1) (cell 35 0 p.wire (t + 1) ∷ []) m₁
      → Done pulse M F P (place (t + 1 + 1) (p.delay + 1) (t + 1 + 1 + 1) p.mark p.out) m₂ m₃ marked k₁ q
      → end ≡ write p.delay (cell 34 δ q.wire 0 ∷ []) m₃
      → Done pulse M F (repeat δ E P) p before end marked k₁ (place t q.delay q.cell q.mark q.out)
  unfolding delays walk marks_of finish_wire delay_count exit_count
  repeat-done h sw a u₀ b =
      let u = rw sw.switch at u₀ in
      let s = grow-walk grown-none _ (after-switches M p.delay E p.cell) sw.cells in
      let g = grow-part (grow-walk s _ refl (rw sw.switch at a)) (omega arith) u in
      closed (grow-front g (omega arith) (rw (left u) at b)) refl (simp append_assoc) refl u.out (rw (sw.switch, left u) refl)

pub loop-done : {pulse M δ : ℕ} {F : ℕ → ℕ} {P : Code} {p q : Place} {before m₁ m₂ m₃ end marked k₁ : List ℕ} {j : Word}
    → p.delay + delay_count (loop δ P) ≤ p.cell
    → m₁ ≡ write p.cell (cell 35 0 p.wire p.delay ∷ []) before
    → Done pulse M F P (place p.cell (p.delay + 1) (p.cell + 1) p.mark p.out) m₁ m₂ marked k₁ q
    → m₃ ≡ write p.delay (cell 34 δ q.wire 0 ∷ []) m₂
    → ExitsJoined q.cell (loop_exits P p.delay p.cell) m₃ end j
    → Done pulse M F (loop δ P) p before end marked k₁ (place j.wire q.delay j.cell q.mark p.out)
unfolding delays walk marks_of finish_wire delay_count exit_count
loop-done {P = P} {p} h a u b x₀ =
    let x = rw (left u) at x₀ in
    let ws = loop_exits P p.delay p.cell in
    let c = exits_at P p.cell in
    let g = grow-front (grow-part (grow-walk grown-none _ refl a) (omega arith) u) (omega arith) (rw (left u) at b) in
    closed (grow-walk g (ors 35 c ws) (behind c (ors-len 35 c ws)) x.cells) refl refl refl (omega arith) (rw (x.wire, x.cell, left u) refl)
