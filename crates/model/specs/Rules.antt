-- The program's own rules: as a relation, one clause for each sentence, and as a function that computes it within a budget. What a kind of circuit adds
-- to the nodes' delays is an argument (`Costs`), so that one definition serves all of them.
-- "Nothing but the program and these words goes in, and nothing from a circuit; the rules keep the words and an instant".
-- Assumes nothing: definitions.
use Rattle.std.specs.Prelude.{ℕ, zero, suc, ◌+◌, ◌-◌, ◌/◌, max, ◌≡◌, Bool, true, false, ◌⊎◌, leb, ltb, eqb}
use Rattle.model.specs.Word.{pick, is_zero, operate, element_word}
use Rattle.model.specs.Program.{Expr, const, var, compl, op, elem, Stmt, ok, tick, assign, assign_elem, seq, par, ite, while, repeat, loop, exit, array_var, writes, call}

-- Words --------------------------------------------------------------------------------------------------------------------------------

-- the words: of the sixteen variables, and from 16 on of the elements, array by array
abbrev pub Store : Type 0
Store = ℕ → ℕ

-- the variable, or the array as a variable, that word x belongs to
unfoldable pub owner : ℕ → ℕ
owner x = pick (ltb x 16) x (array_var ((x - 16) / 64))

unfoldable pub eval : Expr → Store → ℕ
eval (const n) σ = n
eval (var n) σ = σ n
eval (compl e) σ = operate 3 (eval e σ) 0
eval (op k a b) σ = operate k (eval a σ) (eval b σ)
eval (elem k e) σ = σ (element_word k (eval e σ))

unfoldable pub put : Store → ℕ → ℕ → Store
put σ x v y = pick (eqb y x) v (σ y)

-- the words τ, with those that P writes taken from σ
unfoldable pub over : Stmt → Store → Store → Store
over P σ τ x = pick (writes P (owner x)) (σ x) (τ x)

-- "each side's written words are kept": of P and Q that began with σ and ended with σ₁ and σ₂
unfoldable pub kept : Stmt → Stmt → Store → Store → Store → Store
kept P Q σ σ₁ σ₂ = over P σ₁ (over Q σ₂ σ)

-- The rules, as the paper states them -------------------------------------------------------------------------------------------------

-- "A condition is true when its word isn't zero."
abbrev pub IsTrue : Expr → Store → Type 0
IsTrue e σ = is_zero (eval e σ) ≡ false

abbrev pub IsFalse : Expr → Store → Type 0
IsFalse e σ = is_zero (eval e σ) ≡ true

-- what a kind of circuit adds to the delays: what an assignment takes beside its own, and what latching a loop's words takes
pub record Costs : Type 0 where
  pub write : ℕ
  pub latch : ℕ

-- "an assignment's second delay is w, and it takes d + w"; no words are latched
abbrev pub imperative : ℕ → Costs
imperative w = record { write = w; latch = 0 }

-- S-11: "An assignment takes d. Latching a loop's words takes one instant"
abbrev pub functional : Costs
functional = record { write = 0; latch = 1 }

-- d + n, such that it computes where n is a number
abbrev pub extended : ℕ → ℕ → ℕ
extended zero d = d
extended (suc n) d = suc (extended n d)

-- what a body does: from σ it is done after t instants with σ'
abbrev pub Course : Type 1
Course = Store → ℕ → Store → Type 0

-- the same, n instants later
abbrev pub Postponed : ℕ → Course → Course
Postponed zero R σ t σ' = R σ t σ'
Postponed (suc n) R σ t σ' = (t₁ : ℕ) × R σ t₁ σ' × (t ≡ suc n + t₁)

-- "While takes d for each test, the last included": with n rounds of a body that ends as R tells
unfoldable pub WhileEnds : Course → ℕ → Expr → ℕ → Course
WhileEnds R d e zero σ t σ' = IsFalse e σ × (t ≡ d) × (σ' ≡ σ)
WhileEnds R d e (suc n) σ t σ' =
    (t₁ : ℕ) × (σ₁ : Store) × (t₂ : ℕ) × IsTrue e σ × R σ t₁ σ₁ × WhileEnds R d e n σ₁ t₂ σ' × (t ≡ d + (t₁ + t₂))

-- and where after n rounds the body, in one more, comes to an exit as L tells
unfoldable pub WhileLeaves : Course → Course → ℕ → Expr → ℕ → Course
WhileLeaves R L d e zero σ t σ' = (t₁ : ℕ) × IsTrue e σ × L σ t₁ σ' × (t ≡ d + t₁)
WhileLeaves R L d e (suc n) σ t σ' =
    (t₁ : ℕ) × (σ₁ : Store) × (t₂ : ℕ) × IsTrue e σ × R σ t₁ σ₁ × WhileLeaves R L d e n σ₁ t₂ σ' × (t ≡ d + (t₁ + t₂))

-- "Repeat runs P, takes d, tests, and goes round while e is false": with n rounds after the first
unfoldable pub RepeatEnds : Course → ℕ → Expr → ℕ → Course
RepeatEnds R d e zero σ t σ' = (t₁ : ℕ) × R σ t₁ σ' × IsTrue e σ' × (t ≡ t₁ + d)
RepeatEnds R d e (suc n) σ t σ' =
    (t₁ : ℕ) × (σ₁ : Store) × (t₂ : ℕ) × R σ t₁ σ₁ × IsFalse e σ₁ × RepeatEnds R d e n σ₁ t₂ σ' × (t ≡ t₁ + (d + t₂))

unfoldable pub RepeatLeaves : Course → Course → ℕ → Expr → ℕ → Course
RepeatLeaves R L d e zero σ t σ' = L σ t σ'
RepeatLeaves R L d e (suc n) σ t σ' =
    (t₁ : ℕ) × (σ₁ : Store) × (t₂ : ℕ) × R σ t₁ σ₁ × IsFalse e σ₁ × RepeatLeaves R L d e n σ₁ t₂ σ' × (t ≡ t₁ + (d + t₂))

-- "loop P (kind 25) with a delay of at least 1 for going round": n rounds, each of which ends and takes d, and one that comes to an exit
unfoldable pub LoopEnds : Course → Course → ℕ → ℕ → Course
LoopEnds R L d zero σ t σ' = L σ t σ'
LoopEnds R L d (suc n) σ t σ' = (t₁ : ℕ) × (σ₁ : Store) × (t₂ : ℕ) × R σ t₁ σ₁ × LoopEnds R L d n σ₁ t₂ σ' × (t ≡ t₁ + (d + t₂))

unfoldable mutual
  -- P, run from σ, ends after t instants with the words σ': "some programs have no end".
  -- "An expression is worked out on the words as they are when its statement's d begins."
  -- "A sequence or parallel ends only if both parts do."
  pub Ends : Costs → Stmt → Store → ℕ → Store → Type 0
  -- "ok takes 0."
  Ends κ ok σ t σ' = (t ≡ 0) × (σ' ≡ σ)
  -- "tick takes d."
  Ends κ (tick d) σ t σ' = (t ≡ d) × (σ' ≡ σ)
  -- "An assignment takes d + 1 and changes one word."; S-10: "it takes d + w"; S-11: "An assignment takes d."
  Ends κ (assign d x e) σ t σ' = (t ≡ d + κ.write) × (σ' ≡ put σ x (eval e σ))
  Ends κ (assign_elem d k i e) σ t σ' = (t ≡ d + κ.write) × (σ' ≡ put σ (element_word k (eval i σ)) (eval e σ))
  -- "A sequence adds times, and Q runs from P's last words."
  Ends κ (seq P Q) σ t σ' = (t₁ : ℕ) × (σ₁ : Store) × (t₂ : ℕ) × Ends κ P σ t₁ σ₁ × Ends κ Q σ₁ t₂ σ' × (t ≡ t₁ + t₂)
  -- "In parallel both sides run from the same words; the time is the larger one; each side's written words are kept."
  Ends κ (par P Q) σ t σ' =
      (t₁ : ℕ) × (σ₁ : Store) × (t₂ : ℕ) × (σ₂ : Store) × Ends κ P σ t₁ σ₁ × Ends κ Q σ t₂ σ₂ × (t ≡ max t₁ t₂) × (σ' ≡ kept P Q σ σ₁ σ₂)
  -- "An if takes d and then its branch."
  Ends κ (ite d e P Q) σ t σ' = (t₁ : ℕ) × (IsTrue e σ → Ends κ P σ t₁ σ') × (IsFalse e σ → Ends κ Q σ t₁ σ') × (t ≡ d + t₁)
  -- "While takes d for each test, the last included." S-11: "in while before each test's delay"
  Ends κ (while d e P) σ t σ' = (n : ℕ) × WhileEnds (Ends κ P) (extended κ.latch d) e n σ t σ'
  -- "Repeat runs P, takes d, tests, and goes round while e is false." S-11: "in repeat before each run of P"
  Ends κ (repeat d e P) σ t σ' = (n : ℕ) × RepeatEnds (Postponed κ.latch (Ends κ P)) d e n σ t σ'
  -- "exit (kind 26), which takes no time and ends the innermost kind 25 around it": a loop ends where its body comes to an exit
  Ends κ (loop d P) σ t σ' = (n : ℕ) × LoopEnds (Ends κ P) (λ σ t σ'. Leaves κ P σ t σ') d n σ t σ'
  -- and the exit itself has no end, so that nothing after it runs
  Ends κ exit σ t σ' = ⊥
  Ends κ (call _ none) σ t σ' = elim none [ ]

  -- P, run from σ, comes after t instants, with the words σ', to an exit that ends the loop around P
  pub Leaves : Costs → Stmt → Store → ℕ → Store → Type 0
  Leaves κ ok σ t σ' = ⊥
  Leaves κ (tick d) σ t σ' = ⊥
  Leaves κ (assign d x e) σ t σ' = ⊥
  Leaves κ (assign_elem d k i e) σ t σ' = ⊥
  Leaves κ (seq P Q) σ t σ' = Leaves κ P σ t σ' ⊎ ((t₁ : ℕ) × (σ₁ : Store) × (t₂ : ℕ) × Ends κ P σ t₁ σ₁ × Leaves κ Q σ₁ t₂ σ' × (t ≡ t₁ + t₂))
  -- refusal 22: no exit of a side ends a loop around the parallel
  Leaves κ (par P Q) σ t σ' = ⊥
  Leaves κ (ite d e P Q) σ t σ' = (t₁ : ℕ) × (IsTrue e σ → Leaves κ P σ t₁ σ') × (IsFalse e σ → Leaves κ Q σ t₁ σ') × (t ≡ d + t₁)
  Leaves κ (while d e P) σ t σ' = (n : ℕ) × WhileLeaves (λ σ t σ'. Ends κ P σ t σ') (Leaves κ P) (extended κ.latch d) e n σ t σ'
  Leaves κ (repeat d e P) σ t σ' =
      (n : ℕ) × RepeatLeaves (Postponed κ.latch (λ σ t σ'. Ends κ P σ t σ')) (Postponed κ.latch (Leaves κ P)) d e n σ t σ'
  -- "the innermost kind 25", and no other
  Leaves κ (loop d P) σ t σ' = ⊥
  -- "which takes no time"
  Leaves κ exit σ t σ' = (t ≡ 0) × (σ' ≡ σ)
  Leaves κ (call _ none) σ t σ' = elim none [ ]

-- The rules within a budget ------------------------------------------------------------------------------------------------------------

-- how a run is done: it ended, or it came to an exit of the loop around it
pub data Way : Type 0 where
  at_end at_exit : Way

-- A run within a budget of k instants: it is done after t instants with these words, or it is still going.
pub data Run : Type 0 where
  done : Way → ℕ → Store → Run
  still : Run

abbrev pub ended : ℕ → Store → Run
ended t σ = done at_end t σ

abbrev pub left : ℕ → Store → Run
left t σ = done at_exit t σ

-- a run that begins d instants later
unfoldable pub after : ℕ → Run → Run
after d (done way t σ) = done way (d + t) σ
after d still = still

-- d instants pass, and then c goes on with what is left of the budget
unfoldable pub wait : ℕ → ℕ → (ℕ → Run) → Run
wait d k c = elim (leb d k) [ true ↦ after d (c (k - d)) | false ↦ still ]

-- r, and where it ended, c from there
unfoldable pub chain : Run → (ℕ → Store → Run) → Run
chain (done at_end t σ) c = after t (c t σ)
chain (done at_exit t σ) c = left t σ
chain still c = still

-- "the time is the larger one"; "ends only if both parts do"; the words joined by j
unfoldable pub both : (Store → Store → Store) → Run → Run → Run
both j (done at_end t σ) (done at_end t' σ') = ended (max t t') (j σ σ')
both j (done at_end t σ) (done at_exit t' σ') = still
both j (done at_end t σ) still = still
both j (done at_exit t σ) r = still
both j still r = still

-- what comes to an exit in the body of a loop ends the loop
unfoldable pub caught : Run → Run
caught (done way t σ) = ended t σ
caught still = still

-- a while of at most n turns; each turn takes at least 1, so more turns than instants are enough
unfoldable pub whiles : (ℕ → Store → Run) → ℕ → Expr → ℕ → ℕ → Store → Run
whiles body d e zero k σ = still
whiles body d e (suc n) k σ =
    wait d k
    (λ k₁.
    elim (is_zero (eval e σ)) [ true ↦ ended 0 σ | false ↦ chain (body k₁ σ) (λ t σ₁. whiles body d e n (k₁ - t) σ₁) ])

-- a repeat of at most n turns
unfoldable pub repeats : (ℕ → Store → Run) → ℕ → Expr → ℕ → ℕ → Store → Run
repeats body d e zero k σ = still
repeats body d e (suc n) k σ =
    chain (body k σ)
    (λ t σ₁.
    wait d (k - t) (λ k₁. elim (is_zero (eval e σ₁)) [ true ↦ repeats body d e n k₁ σ₁ | false ↦ ended 0 σ₁ ]))

-- at most n turns of a loop, until its body comes to an exit
unfoldable pub loops : (ℕ → Store → Run) → ℕ → ℕ → ℕ → Store → Run
loops body d zero k σ = still
loops body d (suc n) k σ = chain (body k σ) (λ t σ₁. wait d (k - t) (λ k₁. loops body d n k₁ σ₁))

-- a body that begins n instants later
abbrev pub postponed : ℕ → (ℕ → Store → Run) → ℕ → Store → Run
postponed zero body k σ = body k σ
postponed (suc n) body k σ = wait (suc n) k (λ k₁. body k₁ σ)

-- P from σ within k instants: where it is done, Ends or Leaves tells the same time and words (theory/Rules/Relation)
unfoldable pub run : Costs → ℕ → Stmt → Store → Run
run κ k ok σ = ended 0 σ
run κ k (tick d) σ = wait d k (λ k₁. ended 0 σ)
run κ k (assign d x e) σ = wait (d + κ.write) k (λ k₁. ended 0 (put σ x (eval e σ)))
run κ k (assign_elem d j i e) σ = wait (d + κ.write) k (λ k₁. ended 0 (put σ (element_word j (eval i σ)) (eval e σ)))
run κ k (seq P Q) σ = chain (run κ k P σ) (λ t σ₁. run κ (k - t) Q σ₁)
run κ k (par P Q) σ = both (kept P Q σ) (run κ k P σ) (run κ k Q σ)
run κ k (ite d e P Q) σ = wait d k (λ k₁. elim (is_zero (eval e σ)) [ true ↦ run κ k₁ Q σ | false ↦ run κ k₁ P σ ])
run κ k (while d e P) σ = whiles (λ k₁ σ₁. run κ k₁ P σ₁) (extended κ.latch d) e (suc k) k σ
run κ k (repeat d e P) σ = repeats (postponed κ.latch (λ k₁ σ₁. run κ k₁ P σ₁)) d e (suc k) k σ
run κ k (loop d P) σ = caught (loops (λ k₁ σ₁. run κ k₁ P σ₁) d (suc k) k σ)
run κ k exit σ = left 0 σ
run κ k (call _ none) σ = elim none [ ]

-- whether at t, in a run within t instants, one of the w instants from its end on has come
unfoldable pub shows_at : ℕ → ℕ → Run → Bool
shows_at w t (done at_end t' σ) = ltb t (t' + w)
shows_at w t (done at_exit t' σ) = false
shows_at w t still = false

-- whether a finish is due at t, computed: "the finish wire rises once, at the program's end, and stays up w instants, at each of which a finish is due"
unfoldable pub due : Costs → ℕ → Stmt → Store → ℕ → Bool
due κ w P σ t = shows_at w t (run κ t P σ)
