-- The tests of model/Reader: what the reader does at a token, for each way that the tests can come out. Assumes nothing.
use Rattle.std.proofs.Common.{◌≡◌, ℕ, true, false, ◌&&◌, ◌||◌, eqb, leb, List, length, ◌+◌, ◌≤◌, sym, refl, ap, ◌∙◌, eq-eqb, ne_eqb, arith}
use Rattle.std.proofs.lemmas.Bool.{eqb-false}
use Rattle.model.specs.declared.texts.Token.{Token}
use Rattle.model.specs.declared.texts.Mode.{Mode}
use Rattle.model.specs.declared.texts.Mode.TheVariants.{Statement, AfterStatement, Operand, AfterOperand, Becomes, Ticks, Delay, Body}
use Rattle.model.specs.Program.{node}
use Rattle.model.specs.Reader.{Reader, pop, top_code, top_start, comparison, broken, leaf, opened, opened_node, between, closed, turned, reduced, with_delay, on_statement, on_operand, on_after_operand, on_after_statement, on_delay, on_body, step_of, step}
use Rattle.laws.specs.Refusals.Laws.{by_bool}
use Rattle.text.specs.declared.frames.Open.{Open}
use Rattle.text.specs.declared.frames.Popped.{Popped}
use Rattle.text.specs.declared.machine.Machine.{Machine}
use Rattle.text.specs.Shown.{frames_in, Pops, Lists, lists, Shows, with_mode, rewound}
use Rattle.text.proofs.Stack.{frames-length}

-- one of two codes next to each other
one-of : (c k : ℕ) → k ≤ c → c ≤ k + 1 → (eqb c k || eqb c (k + 1)) ≡ true
one-of c k low high =
    by_bool (eqb c k) (λ e. rw e refl) (λ e. let n : c ≡ k + 1 = omega (arith, eqb-false c k e) in rw (e, eq-eqb c (k + 1) n) refl)

module _ (t : Token) (r : Reader) where
  -- A statement is expected ----------------------------------------------------------------------------------------------------------

  pub statement-ok : t.code ≡ 16 → on_statement t r ≡ leaf AfterStatement (node 16 0 0) r
  unfolding on_statement
  statement-ok e = rw e refl

  pub statement-tick : t.code ≡ 17 → on_statement t r ≡ leaf Ticks (node 17 0 0) r
  unfolding on_statement
  statement-tick e = rw e refl

  pub statement-name : t.code ≡ 2 → on_statement t r ≡ opened_node Becomes 18 (node 18 0 t.value) r
  unfolding on_statement
  statement-name e = rw e refl

  pub statement-repeat : t.code ≡ 23 → on_statement t r ≡ opened_node Statement 23 (node 23 0 0) r
  unfolding on_statement
  statement-repeat e = rw e refl

  pub statement-brace : t.code ≡ 40 → on_statement t r ≡ opened Statement 40 r
  unfolding on_statement
  statement-brace e = rw e refl

  pub statement-condition : 21 ≤ t.code → t.code ≤ 22 → on_statement t r ≡ opened_node Operand t.code (node t.code 0 0) r
  unfolding on_statement
  statement-condition low high =
      rw (ne_eqb t.code 16 (λ e. omega (arith, e)), ne_eqb t.code 17 (λ e. omega (arith, e)), ne_eqb t.code 2 (λ e. omega (arith, e)), one-of t.code 21 low high) refl

  pub statement-broken : (t.code ≡ 16 → ⊥) → (t.code ≡ 17 → ⊥) → (t.code ≡ 2 → ⊥) → (t.code ≡ 21 → ⊥) → (t.code ≡ 22 → ⊥) → (t.code ≡ 23 → ⊥)
      → (t.code ≡ 40 → ⊥) → on_statement t r ≡ broken r
  unfolding on_statement
  statement-broken a b d e f g h =
      rw (
        ne_eqb t.code 16 a,
        ne_eqb t.code 17 b,
        ne_eqb t.code 2 d,
        ne_eqb t.code 21 e,
        ne_eqb t.code 22 f,
        ne_eqb t.code 23 g,
        ne_eqb t.code 40 h,
      )
      refl

  -- An expression is expected --------------------------------------------------------------------------------------------------------

  pub operand-leaf : 1 ≤ t.code → t.code ≤ 2 → on_operand t r ≡ leaf AfterOperand (node t.code 0 t.value) r
  unfolding on_operand
  operand-leaf low high = rw (one-of t.code 1 low high) refl

  pub operand-complement : t.code ≡ 3 → on_operand t r ≡ opened_node Operand 3 (node 3 0 0) r
  unfolding on_operand
  operand-complement e = rw e refl

  pub operand-paren : t.code ≡ 38 → on_operand t r ≡ opened Operand 38 r
  unfolding on_operand
  operand-paren e = rw e refl

  pub operand-broken : (t.code ≡ 1 → ⊥) → (t.code ≡ 2 → ⊥) → (t.code ≡ 3 → ⊥) → (t.code ≡ 38 → ⊥) → on_operand t r ≡ broken r
  unfolding on_operand
  operand-broken a b d e = rw (ne_eqb t.code 1 a, ne_eqb t.code 2 b, ne_eqb t.code 3 d, ne_eqb t.code 38 e) refl

  -- An operand was read --------------------------------------------------------------------------------------------------------------

  module _ (operator : (leb 4 t.code && leb t.code 9) ≡ true) where
    pub operator-chained : (comparison t.code && comparison (top_code (pop 7 r.start r.frames).frames)) ≡ true
        → on_after_operand t r ≡ broken r
    unfolding on_after_operand
    operator-chained e = rw (operator, e) refl

    pub operator-joins : (comparison t.code && comparison (top_code (pop 7 r.start r.frames).frames)) ≡ false
        → on_after_operand t r ≡ between Operand t.code r
    unfolding on_after_operand
    operator-joins e = rw (operator, e) refl

  module _ {top : ℕ} (shown : top ≡ top_code (reduced r).frames) where
    module _ (operator : (leb 4 t.code && leb t.code 9) ≡ false) where
      pub operand-closed : (eqb t.code 39 && eqb top 38) ≡ true → on_after_operand t r ≡ closed AfterOperand (reduced r)
      unfolding on_after_operand
      operand-closed e = rw (operator, ← shown, e) refl

      module _ (a : (eqb t.code 39 && eqb top 38) ≡ false) where
        pub operand-timed : (eqb t.code 37 && ((eqb top 18 || eqb top 21) || (eqb top 22 || eqb top 35))) ≡ true
            → on_after_operand t r ≡ with_mode Delay (reduced r)
        unfolding on_after_operand
        operand-timed e = rw (operator, ← shown, a, e) refl

        pub operand-ended : (eqb t.code 37 && ((eqb top 18 || eqb top 21) || (eqb top 22 || eqb top 35))) ≡ false
            → on_after_operand t r ≡ broken r
        unfolding on_after_operand
        operand-ended e = rw (operator, ← shown, a, e) refl

    -- A statement was read -------------------------------------------------------------------------------------------------------------

    module _ (join : (eqb t.code 19 || eqb t.code 20) ≡ false) where
      pub statement-closed : (eqb t.code 41 && eqb top 40) ≡ true → on_after_statement t r ≡ closed AfterStatement (reduced r)
      unfolding on_after_statement
      statement-closed e = rw (join, ← shown, e) refl

      module _ (a : (eqb t.code 41 && eqb top 40) ≡ false) where
        pub statement-else : (eqb t.code 33 && eqb top 32) ≡ true → on_after_statement t r ≡ turned Statement 33 (reduced r)
        unfolding on_after_statement
        statement-else e = rw (join, ← shown, a, e) refl

        module _ (b : (eqb t.code 33 && eqb top 32) ≡ false) where
          pub statement-end : (eqb t.code 36 && (eqb top 33 || eqb top 34)) ≡ true → on_after_statement t r ≡ closed AfterStatement (reduced r)
          unfolding on_after_statement
          statement-end e = rw (join, ← shown, a, b, e) refl

          module _ (d : (eqb t.code 36 && (eqb top 33 || eqb top 34)) ≡ false) where
            pub statement-until : (eqb t.code 35 && eqb top 23) ≡ true → on_after_statement t r ≡ turned Operand 35 (rewound (reduced r))
            unfolding on_after_statement turned
            statement-until e = rw (join, ← shown, a, b, d, e) refl

            pub statement-ended : (eqb t.code 35 && eqb top 23) ≡ false → on_after_statement t r ≡ broken r
            unfolding on_after_statement
            statement-ended e = rw (join, ← shown, a, b, d, e) refl

  pub statement-joins : (eqb t.code 19 || eqb t.code 20) ≡ true → on_after_statement t r ≡ between Statement t.code r
  unfolding on_after_statement
  statement-joins e = rw e refl

  -- A delay is expected --------------------------------------------------------------------------------------------------------------

  pub delay-broken : (t.code ≡ 1 → ⊥) → on_delay t r ≡ broken r
  unfolding on_delay
  delay-broken e = rw (ne_eqb t.code 1 e) refl

  module _ {top : ℕ} (shown : top ≡ top_code r.frames) where
    module _ (number : t.code ≡ 1) where
      pub delay-closes : top ≡ 18 → on_delay t r ≡ closed AfterStatement (with_delay Body (top_start r.frames) t.value r)
      unfolding on_delay
      delay-closes e = rw (number, ← shown, e) refl

      pub delay-goes-on : (top ≡ 18 → ⊥) → on_delay t r ≡ with_delay Body (top_start r.frames) t.value r
      unfolding on_delay
      delay-goes-on e = rw (number, ← shown, ne_eqb top 18 e) refl

    -- The body is expected -------------------------------------------------------------------------------------------------------------

    pub body-then : (eqb t.code 32 && eqb top 21) ≡ true → on_body t r ≡ turned Statement 32 r
    unfolding on_body
    body-then e = rw (← shown, e) refl

    module _ (a : (eqb t.code 32 && eqb top 21) ≡ false) where
      pub body-do : (eqb t.code 34 && eqb top 22) ≡ true → on_body t r ≡ turned Statement 34 r
      unfolding on_body
      body-do e = rw (← shown, a, e) refl

      module _ (b : (eqb t.code 34 && eqb top 22) ≡ false) where
        pub body_end : (eqb t.code 36 && eqb top 35) ≡ true → on_body t r ≡ closed AfterStatement r
        unfolding on_body
        body_end e = rw (← shown, a, b, e) refl

        pub body-broken : (eqb t.code 36 && eqb top 35) ≡ false → on_body t r ≡ broken r
        unfolding on_body
        body-broken e = rw (← shown, a, b, e) refl

  -- `:=` and the number of a tick ----------------------------------------------------------------------------------------------------

  pub becomes-operand : t.code ≡ 18 → step_of Becomes t r ≡ with_mode Operand r
  unfolding step_of
  becomes-operand e = rw e refl

  pub becomes-broken : (t.code ≡ 18 → ⊥) → step_of Becomes t r ≡ broken r
  unfolding step_of
  becomes-broken e = rw (ne_eqb t.code 18 e) refl

  pub ticks-delay : {p : ℕ} → p ≡ r.start → t.code ≡ 1 → step_of Ticks t r ≡ with_delay AfterStatement p t.value r
  unfolding step_of
  ticks-delay s e = rw (e, s) refl

  pub ticks-broken : (t.code ≡ 1 → ⊥) → step_of Ticks t r ≡ broken r
  unfolding step_of
  ticks-broken e = rw (ne_eqb t.code 1 e) refl

  -- Every mode ----------------------------------------------------------------------------------------------------------------------

  pub step_in : {m : Machine} {l : Lists} {mode : Mode} → Shows r m l → m.mode ≡ mode → step t r ≡ step_of mode t r
  step_in h e = ap (λ (k : Mode). step_of k t r) (sym h.mode ∙ e)

-- The frame on top -------------------------------------------------------------------------------------------------------------------

module _ {s : List Open} {n : List ℕ} {r : Reader} {m : Machine} (h : Shows r m (lists s n)) where
  pub top-shown : {top : ℕ} → top ≡ top_code (frames_in s m.height) → top ≡ top_code r.frames
  top-shown e = rw h.frames at e

  pub start-shown : {p : ℕ} → p ≡ top_start (frames_in s m.height) → p ≡ top_start r.frames
  start-shown e = rw h.frames at e

  pub popped-shown : (reach : ℕ) {p : Popped} {top : ℕ} → Pops s reach m.start m.height p → top ≡ top_code (frames_in s p.height)
      → top ≡ top_code (pop reach r.start r.frames).frames
  popped-shown reach {p} pops e =
      let f : frames_in s p.height ≡ (pop reach r.start r.frames).frames = rw (h.start, h.frames) at pops.frames in rw f at e

pub empty-shown : (s : List Open) (h : ℕ) {p : Popped} → Pops s 0 0 h p → eqb p.height 0 ≡ eqb (length (pop 0 0 (frames_in s h)).frames) 0
empty-shown s h {p} pops = rw (← pops.frames, frames-length s p.height) refl
