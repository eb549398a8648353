-- Each cell of a functional netlist keeps the rules of a cell: inputs of the right sort, in lower cells, but for those of delays and latches.
-- Assumes nothing.
use Rattle.std.specs.Prelude.{◌≡◌, Bool, false, [], ◌∷◌, ◌++◌, eqb}
use Rattle.std.proofs.Math.Path.{refl}
use Rattle.std.proofs.Math.Bool.{true}
use Rattle.std.proofs.Common.{inl}
use Prim.Native.Nat.{ℕ, ◌+◌, ◌<◌, ◌≤◌}
use native.Mathlib.Omega.{arith}
use Rattle.model.specs.declared.Cell.{Cell}
use Rattle.model.specs.Word.{pick}
use Rattle.model.specs.Program.{Stmt, ok, tick, assign, assign_elem, seq, par, ite, while, repeat, loop, exit, writes, call}
use Rattle.model.specs.Circuit.{cell, control, cell_table, shape}
use Rattle.model.specs.NetlistFile.{of_array, stands}
use Rattle.model.specs.Numbering.{Wires, expr_count, expr_wire, expr_cells, if_delay_count, if_delay_cells}
use Rattle.model.specs.Functional.{each, rank, many, placed, joins_at, branches, choices, count, finish_wire, outs, walk, if_true, if_then, if_else, if_end, while_true, while_body, while_load, repeat_body, repeat_delay, repeat_true, repeat_load}
use Rattle.laws.specs.Program.Fit.{Formed, Low, Basic}
use Rattle.laws.specs.Circuit.Ordered.{word, In}
use Rattle.laws.specs.Numbering.Cells.{All, split, join}
use Rattle.laws.specs.Numbering.Lengths.{e-len, own-len}
use Rattle.laws.specs.Numbering.Valid.{Ok, HasKind, Brings, e-ok, pulse-ok}
use Rattle.laws.specs.Functional.Count.{each-len, w-len}
use Rattle.laws.specs.Functional.Rows.{each_at, rank_below, all-each}

module _ (K : ℕ → ℕ) (n : ℕ) where
  pub later : (lim lim' : ℕ) (ws : Wires) → lim ≤ lim' → Brings K lim ws → Brings K lim' ws
  later lim lim' ws o h x l = (omega (arith, (h x l).0), (h x l).1)

  pick-in : (lim : ℕ) (b : Bool) (j k : ℕ) → In word K lim j → In word K lim k → In word K lim (pick b j k)
  pick-in lim true j k h g = h
  pick-in lim false j k h g = g

  placed-in : (b : ℕ → Bool) (a lim : ℕ) (ws : Wires) → a + many b ≤ lim → ((x : ℕ) → x < 16 → b x ≡ true → word (K (a + rank b x)) ≡ true) → Brings K lim ws
      → Brings K lim (placed b a ws)
  placed-in b a lim ws l h i x k = go (b x) refl
    where
      go : (p : Bool) → b x ≡ p → In word K lim (pick (b x) (a + rank b x) (ws x))
      go true e = rw e (omega (arith, rank_below b x k e), h x k e)
      go false e = rw e (i x k)

  -- the kinds of the three rows of choices are p, q and 7; if the cells of the first two keep the rules, all do
  choices-ok : (b : ℕ → Bool) (f g : ℕ → Cell) (a p q : ℕ) → word p ≡ true → word q ≡ true → ((x : ℕ) → (f x).kind ≡ p) → ((x : ℕ) → (g x).kind ≡ q)
      → ((x : ℕ) → x < 16 → b x ≡ true → Ok K n (a + rank b x) (f x)) → ((x : ℕ) → x < 16 → b x ≡ true → Ok K n (a + many b + rank b x) (g x))
      → All (HasKind K) a (choices b f g a)
      → All (Ok K n) a (choices b f g a) × ((x : ℕ) → x < 16 → b x ≡ true → word (K (joins_at b a + rank b x)) ≡ true)
  unfolding choices shape cell_table stands word of_array
  choices-ok b f g a p q wp wq ep eq okf okg h =
      let o : ℕ → Cell = λ x. cell 7 0 (a + rank b x) (a + many b + rank b x) in
      let r = split (HasKind K) a (many b) (each b f) (each b g ++ each b o) (each-len b f) h in
      let r' = split (HasKind K) (a + many b) (many b) (each b g) (each b o) (each-len b g) r.1 in
      let kf : (x : ℕ) → x < 16 → b x ≡ true → word (K (a + rank b x)) ≡ true = λ x l e. rw (each_at (HasKind K) b f a r.0 x l e, ep x) wp in
      let kg : (x : ℕ) → x < 16 → b x ≡ true → word (K (a + many b + rank b x)) ≡ true =
      λ x l e. rw (each_at (HasKind K) b g (a + many b) r'.0 x l e, eq x) wq in (
        join (Ok K n) a (many b) (each b f) (each b g ++ each b o) (each-len b f) (all-each (Ok K n) b f a okf)
            (join (Ok K n) (a + many b) (many b) (each b g) (each b o) (each-len b g) (all-each (Ok K n) b g (a + many b) okg)
            (all-each (Ok K n) b o (joins_at b a)
            (λ x l e. (refl, (refl, (omega (arith, rank_below b x l e), kf x l e), (omega (arith, rank_below b x l e), kg x l e)))))),
        λ x l e. rw (each_at (HasKind K) b o (joins_at b a) r'.1 x l e),
      )

  module _ (three : word (K 2) ≡ true) where
    -- a statement's cells, its finish and its wires of words
    pub p-ok : (P : Stmt) → Formed P → Low P → Basic P → (s : ℕ) (ws : Wires) (c : ℕ) → 3 ≤ c → In control K c s → Brings K c ws → c + count P ≤ n
        → All (HasKind K) c (walk P s ws c)
        → All (Ok K n) c (walk P s ws c) × In control K (c + count P) (finish_wire P s c) × Brings K (c + count P) (outs P ws c)
    unfolding walk finish_wire outs count shape cell_table stands control word of_array
    p-ok ok w z y s ws c b i v l h = (tt, (omega arith, i.1), later c (c + 0) ws (omega arith) v)
    p-ok (tick δ) w z y s ws c b i v l h =
        (((refl, ((z.0, z.1), (omega arith, i.1), refl)), tt), (omega arith, rw h.0), later c (c + 1) ws (omega arith) v)
    p-ok (assign δ x e) w z y s ws c b i v l h =
        let o = cell 34 δ s 0 in
        let r = split (HasKind K) c (expr_count e) (expr_cells ws e c) (o ∷ []) (e-len ws e c) h in
        let ie = e-ok K n ws c v e w.2 (inl y) c (omega arith) r.0 in (
          join (Ok K n) c (expr_count e) (expr_cells ws e c) (o ∷ []) (e-len ws e c) ie.0 ((refl, ((z.0.0, z.0.1), (omega arith, i.1), refl)), tt),
          (omega arith, rw r.1.0),
          λ y k.
              pick-in (c + (expr_count e + 1)) (eqb y x) (expr_wire ws e c) (ws y) (omega (arith, ie.1.0), ie.1.1)
              (later c (c + (expr_count e + 1)) ws (omega arith) v y k),
        )
    p-ok (seq P Q) w z y s ws c b i v l h =
        let g = finish_wire P s c in
        let us = outs P ws c in
        let cQ = c + count P in
        let r = split (HasKind K) c (count P) (walk P s ws c) (walk Q g us cQ) (w-len P s ws c) h in
        let iP = p-ok P w.0 z.0 y.0 s ws c b i v (omega arith) r.0 in
        let iQ = p-ok Q w.1 z.1 y.1 g us cQ (omega arith) iP.1 iP.2 (omega arith) r.1 in (
          join (Ok K n) c (count P) (walk P s ws c) (walk Q g us cQ) (w-len P s ws c) iP.0 iQ.0,
          (omega arith, iQ.1.1),
          later (cQ + count Q) (c + (count P + count Q)) (outs Q us cQ) (omega arith) iQ.2,
        )
    p-ok (par P Q) w z y s ws c b i v l h =
        let cQ = c + count P in
        let e = c + (count P + (count Q + 1)) in
        let o = cell 38 0 (finish_wire P s c) (finish_wire Q s cQ) in
        let r = split (HasKind K) c (count P) (walk P s ws c) (walk Q s ws cQ ++ (o ∷ [])) (w-len P s ws c) h in
        let q = split (HasKind K) cQ (count Q) (walk Q s ws cQ) (o ∷ []) (w-len Q s ws cQ) r.1 in
        let iP = p-ok P w.0 z.0 y.0 s ws c b i v (omega arith) r.0 in
        let iQ = p-ok Q w.1 z.1 y.1 s ws cQ (omega arith) (omega arith, i.1) (later c cQ ws (omega arith) v) (omega arith) q.0 in (
          join (Ok K n) c (count P) (walk P s ws c) (walk Q s ws cQ ++ (o ∷ [])) (w-len P s ws c) iP.0
              (join (Ok K n) cQ (count Q) (walk Q s ws cQ) (o ∷ []) (w-len Q s ws cQ) iQ.0 ((refl, (refl, (omega arith, iP.1.1), iQ.1)), tt)),
          (omega arith, rw q.1.0),
          λ y k.
              pick-in e (writes P y) (outs P ws c y) (pick (writes Q y) (outs Q ws cQ y) (ws y))
              (later cQ e (outs P ws c) (omega arith) iP.2 y k)
              (pick-in e (writes Q y) (outs Q ws cQ y) (ws y) (later (cQ + count Q) e (outs Q ws cQ) (omega arith) iQ.2 y k)
              (later c e ws (omega arith) v y k)),
        )
    p-ok (ite δ e P Q) w z y s ws c b i v l h =
        let x = expr_wire ws e c in
        let p = if_true δ e P Q c in
        let cP = if_then δ e P Q c in
        let cQ = if_else δ e P Q c in
        let m = if_end δ e P Q c in
        let a = m + 1 + 1 + 1 + 1 in
        let us = outs P ws cP in
        let vs = outs Q ws cQ in
        let f : ℕ → Cell = λ y. cell 6 0 (us y) (m + 1 + 1 + 1) in
        let g : ℕ → Cell = λ y. cell 6 0 (vs y) (m + 1 + 1) in
        let tail =
        cell 35 0 (finish_wire P p cP) (finish_wire Q (p + 1) cQ)
        ∷ (cell 8 0 x 2 ∷ (cell 5 0 2 (m + 1) ∷ (cell 3 0 (m + 1 + 1) 0 ∷ choices (branches P Q) f g a))) in
        let re = split (HasKind K) c (expr_count e) (expr_cells ws e c) _ (e-len ws e c) h in
        let ro = split (HasKind K) (c + expr_count e) (if_delay_count δ) (if_delay_cells δ s) _ (own-len δ s) re.1 in
        let rP = split (HasKind K) cP (count P) (walk P p ws cP) (walk Q (p + 1) ws cQ ++ tail) (w-len P p ws cP) ro.1.1.1 in
        let rQ = split (HasKind K) cQ (count Q) (walk Q (p + 1) ws cQ) tail (w-len Q (p + 1) ws cQ) rP.1 in
        let ie = e-ok K n ws c v e w.1 (inl y.0) c (omega arith) re.0 in
        let io = pulse-ok K n δ s (c + expr_count e) p z.0 (omega arith, i.1) (omega arith) (omega arith) ro.0 in
        let iP = p-ok P w.2 z.2 y.1 p ws cP (omega arith) (omega arith, rw ro.1.0) (later c cP ws (omega arith) v) (omega arith) rP.0 in
        let iQ = p-ok Q w.3 z.3 y.2 (p + 1) ws cQ (omega arith) (omega arith, rw ro.1.1.0) (later c cQ ws (omega arith) v) (omega arith) rQ.0 in
        let xs : (lim : ℕ) → c + expr_count e ≤ lim → In word K lim x = λ lim o. (omega (arith, ie.1.0), ie.1.1) in
        let ic =
        choices-ok (branches P Q) f g a 6 6 refl refl (λ y. refl) (λ y. refl)
        (λ y k q. (refl, (refl, (omega (arith, (iP.2 y k).0), (iP.2 y k).1), (omega arith, rw rQ.1.1.1.1.0))))
        (λ y k q. (refl, (refl, (omega (arith, (iQ.2 y k).0), (iQ.2 y k).1), (omega arith, rw rQ.1.1.1.0))))
        rQ.1.1.1.1.1 in (
          join (Ok K n) c (expr_count e) (expr_cells ws e c) _ (e-len ws e c) ie.0
              (join (Ok K n) (c + expr_count e) (if_delay_count δ) (if_delay_cells δ s) _ (own-len δ s) io.0 (
                (refl, (refl, io.1, xs p (omega arith))),
                (
                  (refl, (refl, (omega (arith, io.1.0), io.1.1), xs (p + 1) (omega arith))),
                  join (Ok K n) cP (count P) (walk P p ws cP) (walk Q (p + 1) ws cQ ++ tail) (w-len P p ws cP) iP.0
                      (join (Ok K n) cQ (count Q) (walk Q (p + 1) ws cQ) tail (w-len Q (p + 1) ws cQ) iQ.0 (
                        (refl, (refl, (omega (arith, iP.1.0), iP.1.1), iQ.1)),
                        (
                          (refl, (refl, xs (m + 1) (omega arith), (omega arith, three))),
                          (
                            (refl, (refl, (omega arith, three), (omega arith, rw rQ.1.1.0))),
                            ((refl, (refl, (omega arith, rw rQ.1.1.1.0), refl)), ic.0),
                          ),
                        ),
                      )),
                ),
              )),
          (omega arith, rw rQ.1.0),
          placed-in (branches P Q) (joins_at (branches P Q) a) (c + count (ite δ e P Q)) ws (omega arith) ic.1
              (later c (c + count (ite δ e P Q)) ws (omega arith) v),
        )
    p-ok (while δ e P) w z y s ws c b i v l h =
        let b' = writes P in
        let ls : Wires = placed b' c ws in
        let ce = c + many (writes P) + 1 + 1 in
        let p = while_true e P c in
        let cP = while_body e P c in
        let m = while_load e P c in
        let us = outs P ls cP in
        let x = expr_wire ls e ce in
        let f = finish_wire P p cP in
        let latches : ℕ → Cell = λ y. cell 45 0 m (joins_at b' (m + 1) + rank b' y) in
        let g₁ : ℕ → Cell = λ y. cell 41 0 s (ws y) in
        let g₂ : ℕ → Cell = λ y. cell 41 0 f (us y) in
        let tail = cell 35 0 s f ∷ choices b' g₁ g₂ (m + 1) in
        let rl = split (HasKind K) c (many b') (each b' latches) _ (each-len b' latches) h in
        let re = split (HasKind K) ce (expr_count e) (expr_cells ls e ce) _ (e-len ls e ce) rl.1.1.1 in
        let rP = split (HasKind K) cP (count P) (walk P p ls cP) tail (w-len P p ls cP) re.1.1.1 in
        let il : Brings K (c + many (writes P)) ls =
        placed-in b' c (c + many b') ws (omega arith) (λ y k q. rw (each_at (HasKind K) b' latches c rl.0 y k q)) (later c (c + many b') ws (omega arith) v) in
        let ie = e-ok K n ls (c + many (writes P)) il e w.1 (inl y.0) ce (omega arith) re.0 in
        let iP = p-ok P w.2 z.2 y.1 p ls cP (omega arith) (omega arith, rw re.1.0) (later (c + many (writes P)) cP ls (omega arith) il) (omega arith) rP.0 in
        let ic =
        choices-ok b' g₁ g₂ (m + 1) 41 41 refl refl (λ y. refl) (λ y. refl)
        (λ y k q. (refl, (refl, (omega arith, i.1), (omega (arith, (v y k).0), (v y k).1))))
        (λ y k q. (refl, (refl, (omega (arith, iP.1.0), iP.1.1), (omega (arith, (iP.2 y k).0), (iP.2 y k).1))))
        rP.1.1 in (
          join (Ok K n) c (many b') (each b' latches) _ (each-len b' latches)
              (all-each (Ok K n) b' latches c (λ y k q. (refl, (refl, (omega arith, rw rP.1.0), (omega (arith, rank_below b' y k q), ic.1 y k q))))) (
                (refl, ((omega arith, omega arith), (omega arith, rw rP.1.0), refl)),
                (
                  (refl, ((z.0.0, z.0.1), (omega arith, rw rl.1.0), refl)),
                  join (Ok K n) ce (expr_count e) (expr_cells ls e ce) _ (e-len ls e ce) ie.0 (
                    (refl, (refl, (omega arith, rw rl.1.1.0), ie.1)),
                    (
                      (refl, (refl, (omega arith, rw rl.1.1.0), (omega (arith, ie.1.0), ie.1.1))),
                      join (Ok K n) cP (count P) (walk P p ls cP) tail (w-len P p ls cP) iP.0 ((refl, (refl, (omega arith, i.1), iP.1)), ic.0),
                    ),
                  ),
                ),
              ),
          (omega arith, rw re.1.1.0),
          later (c + many (writes P)) (c + count (while δ e P)) ls (omega arith) il,
        )
    p-ok (repeat δ e P) w z y s ws c b i v l h =
        let b' = writes P in
        let ls : Wires = placed b' c ws in
        let cP = repeat_body e P c in
        let q = repeat_delay e P c in
        let p = repeat_true e P c in
        let m = repeat_load e P c in
        let us = outs P ls cP in
        let x = expr_wire us e (q + 1) in
        let latches : ℕ → Cell = λ y. cell 45 0 m (joins_at b' (m + 1) + rank b' y) in
        let g₁ : ℕ → Cell = λ y. cell 41 0 s (ws y) in
        let g₂ : ℕ → Cell = λ y. cell 41 0 (p + 1) (us y) in
        let rl = split (HasKind K) c (many b') (each b' latches) _ (each-len b' latches) h in
        let rP = split (HasKind K) cP (count P) (walk P (c + many (writes P)) ls cP) _ (w-len P (c + many (writes P)) ls cP) rl.1.1 in
        let re = split (HasKind K) (q + 1) (expr_count e) (expr_cells us e (q + 1)) _ (e-len us e (q + 1)) rP.1.1 in
        let il : Brings K (c + many (writes P)) ls =
        placed-in b' c (c + many b') ws (omega arith) (λ y k q. rw (each_at (HasKind K) b' latches c rl.0 y k q)) (later c (c + many b') ws (omega arith) v) in
        let iP = p-ok P w.2 z.2 y.1 (c + many (writes P)) ls cP (omega arith) (omega arith, rw rl.1.0) (later (c + many (writes P)) cP ls (omega arith) il) (omega arith) rP.0 in
        let ie = e-ok K n us q iP.2 e w.1 (inl y.0) (q + 1) (omega arith) re.0 in
        let ic =
        choices-ok b' g₁ g₂ (m + 1) 41 41 refl refl (λ y. refl) (λ y. refl)
        (λ y k q. (refl, (refl, (omega arith, i.1), (omega (arith, (v y k).0), (v y k).1))))
        (λ y k q. (refl, (refl, (omega arith, rw re.1.1.0), (omega (arith, (iP.2 y k).0), (iP.2 y k).1))))
        re.1.1.1.1 in (
          join (Ok K n) c (many b') (each b' latches) _ (each-len b' latches)
              (all-each (Ok K n) b' latches c (λ y k q. (refl, (refl, (omega arith, rw re.1.1.1.0), (omega (arith, rank_below b' y k q), ic.1 y k q))))) (
                (refl, ((omega arith, omega arith), (omega arith, rw re.1.1.1.0), refl)),
                join (Ok K n) cP (count P) (walk P (c + many (writes P)) ls cP) _ (w-len P (c + many (writes P)) ls cP) iP.0 (
                  (refl, ((z.0.0, z.0.1), (omega (arith, iP.1.0), iP.1.1), refl)),
                  join (Ok K n) (q + 1) (expr_count e) (expr_cells us e (q + 1)) _ (e-len us e (q + 1)) ie.0 (
                    (refl, (refl, (omega arith, rw rP.1.0), ie.1)),
                    (
                      (refl, (refl, (omega arith, rw rP.1.0), (omega (arith, ie.1.0), ie.1.1))),
                      ((refl, (refl, (omega arith, i.1), (omega arith, rw re.1.1.0))), ic.0),
                    ),
                  ),
                ),
              ),
          (omega arith, rw re.1.0),
          later q (c + count (repeat δ e P)) us (omega arith) iP.2,
        )
    p-ok (assign_elem δ k u e) w z y s ws c b i v l h = absurd y
    p-ok (loop δ P) w z y s ws c b i v l h = absurd y
    p-ok exit w z y s ws c b i v l h = absurd y
    p-ok (call _ none) w z y s ws c b i v l h = elim none [ ]
