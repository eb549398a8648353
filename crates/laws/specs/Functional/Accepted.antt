-- What the check for a functional circuit leaves: what the check of a program leaves, and, by refusal 28, a program of document 01's kinds. Its file is
-- never refused.
-- Assumes nothing.
use Rattle.std.specs.Prelude.{◌≡◌, true, false, List, [], ◌∷◌, ◌++◌, ℕ, zero, suc, ◌+◌, ◌-◌, ◌<◌, length, take, drop, Ok, Err}
use Rattle.std.proofs.Math.Path.{refl}
use Rattle.std.proofs.Common.{sym, subst, zero-add, add-zero, arith}
use Rattle.model.specs.declared.Node.{Node}
use Rattle.model.specs.declared.Options.{Options}
use Rattle.model.specs.Word.{Bytes}
use Rattle.model.specs.Refusals.{first, first_fault, Checked, Accepted}
use Rattle.model.specs.Program.{Expr, const, var, compl, op, elem, Code, Stmt, ok, tick, assign, assign_elem, seq, par, ite, while, repeat, loop, exit, call, Program, node_at, node_count, nodes_from, preorder_e, preorder, preorders, time_in}
use Rattle.model.specs.Procedures.{inline, inlined, meaning}
use Rattle.model.specs.ProgramChecks.{program_checks, check_of, program_with, added, added_fault, check_functional}
use Rattle.model.specs.TimeTables.{given_check}
use Rattle.model.specs.Calls.{check_call}
use Rattle.model.specs.NetlistFile.{pulse_wrong}
use Rattle.laws.specs.Refusals.Laws.{not-refused, no-fault, fault-unless}
use Rattle.laws.specs.Program.Fit.{Formed, Low, BasicExpr, Basic}
use Rattle.laws.specs.Program.Passed.{accepted, program-nodes}
use Rattle.laws.specs.Program.Admitted.{Admitted, program-admitted, plain-main, at-main}
use Rattle.laws.specs.Program.Size.{program-low}

-- The checks ---------------------------------------------------------------------------------------------------------------------------------

-- a check among others
between : (n : ℕ) (cs : List Checked) (c : Checked) → first (take n cs ++ (c ∷ drop n cs)) ≡ Accepted → (first cs ≡ Accepted) × (c ≡ Accepted)
between zero [] (Ok _) e = (refl, refl)
between zero [] (Err r) e = not-refused e
between zero (x ∷ cs) (Ok _) e = (e, refl)
between zero (x ∷ cs) (Err r) e = not-refused e
between (suc n) [] (Ok _) e = (refl, refl)
between (suc n) [] (Err r) e = not-refused e
between (suc n) (Ok _ ∷ cs) c e = between n cs c e
between (suc n) (Err r ∷ cs) c e = not-refused e

-- "a table alone": these times, no procedures, and pulses of one instant
abbrev pub table_alone : Options → Options
table_alone options = record { checked = options.checked; times = options.times; procedures = 0; pulse = 1 }

module _ (options : Options) (s : List ℕ) (table : options.checked ≡ Accepted) (e : check_functional options s ≡ Accepted) where
  parts : (check_of (table_alone options) s ≡ Accepted) × (first_fault (added_fault s) 0 (node_count s) ≡ Accepted)
  unfolding check_functional check_of
  parts = between 3 (program_checks (time_in options.times) 1 0 s) (first_fault (added_fault s) 0 (node_count s)) e

  pub also-accepted : check_call (table_alone options) s ≡ Accepted
  unfolding check_call given_check pulse_wrong check_of
  also-accepted = rw (table, parts.0) refl

  -- no node is of an added kind
  abbrev Known : Node → Type 0
  Known a = added a.kind ≡ false

  none-added : (i : ℕ) → i < node_count s → Known (node_at s i)
  unfolding added_fault
  none-added i l = fault-unless (added (node_at s i).kind) 28 (omega arith) (no-fault (added_fault s) (node_count s) parts.1 i l)

-- Trees --------------------------------------------------------------------------------------------------------------------------------------

abbrev Each : (Node → Type 0) → List Node → Type 0
Each R [] = Unit {0}
Each R (a ∷ xs) = R a × Each R xs

each_first : (R : Node → Type 0) (xs ys : List Node) → Each R (xs ++ ys) → Each R xs
each_first R [] ys h = tt
each_first R (a ∷ xs) ys h = (h.0, each_first R xs ys h.1)

each-rest : (R : Node → Type 0) (xs ys : List Node) → Each R (xs ++ ys) → Each R ys
each-rest R [] ys h = h
each-rest R (a ∷ xs) ys h = each-rest R xs ys h.1

each_from : (R : Node → Type 0) (s : List ℕ) (i k : ℕ) → ((j : ℕ) → j < k → R (node_at s (i + j))) → Each R (nodes_from s i k)
unfolding nodes_from
each_from R s i zero h = tt
each_from R s i (suc k) h = (
  rw (add-zero i) at (h 0 (omega arith)),
  each_from R s (i + 1) k (λ j l. let e : i + 1 + j ≡ i + suc j = omega arith in rw e (h (suc j) (omega arith))),
)

abbrev Plain : Node → Type 0
Plain a = added a.kind ≡ false

basic-expr : (e : Expr) → Each Plain (preorder_e e) → BasicExpr e
unfolding preorder_e added
basic-expr (const n) h = tt
basic-expr (var x) h = tt
basic-expr (compl e) h = basic-expr e h.1
basic-expr (op k a b) h =
    (basic-expr a (each_first Plain (preorder_e a) (preorder_e b) h.1), basic-expr b (each-rest Plain (preorder_e a) (preorder_e b) h.1))
basic-expr (elem k e) h = not_none h.0
  where
    not_none : true ≡ false → ⊥
    not_none p = let z : ◌≡◌ {A = ℕ} 0 1 = cc in omega arith

basic-code : (P : Code) → Each Plain (preorder P) → Basic P
unfolding preorder added
basic-code ok h = tt
basic-code (tick d) h = tt
basic-code (assign d x e) h = basic-expr e h.1
basic-code (assign_elem d k i e) h = never h.0
  where
    never : true ≡ false → ⊥
    never p = let z : ◌≡◌ {A = ℕ} 0 1 = cc in omega arith
basic-code (seq P Q) h =
    (basic-code P (each_first Plain (preorder P) (preorder Q) h.1), basic-code Q (each-rest Plain (preorder P) (preorder Q) h.1))
basic-code (par P Q) h =
    (basic-code P (each_first Plain (preorder P) (preorder Q) h.1), basic-code Q (each-rest Plain (preorder P) (preorder Q) h.1))
basic-code (ite d e P Q) h =
    let r = each-rest Plain (preorder_e e) (preorder P ++ preorder Q) h.1 in (
      basic-expr e (each_first Plain (preorder_e e) (preorder P ++ preorder Q) h.1),
      basic-code P (each_first Plain (preorder P) (preorder Q) r),
      basic-code Q (each-rest Plain (preorder P) (preorder Q) r),
    )
basic-code (while d e P) h =
    (basic-expr e (each_first Plain (preorder_e e) (preorder P) h.1), basic-code P (each-rest Plain (preorder_e e) (preorder P) h.1))
basic-code (repeat d e P) h =
    (basic-expr e (each_first Plain (preorder_e e) (preorder P) h.1), basic-code P (each-rest Plain (preorder_e e) (preorder P) h.1))
basic-code (loop d P) h = never h.0
  where
    never : true ≡ false → ⊥
    never p = let z : ◌≡◌ {A = ℕ} 0 1 = cc in omega arith
basic-code exit h = never h.0
  where
    never : true ≡ false → ⊥
    never p = let z : ◌≡◌ {A = ℕ} 0 1 = cc in omega arith
basic-code (call d p) h = never h.0
  where
    never : true ≡ false → ⊥
    never p = let z : ◌≡◌ {A = ℕ} 0 1 = cc in omega arith

last-root : (R : Node → Type 0) (Qs : List Code) (P : Code) → Each R (preorders (Qs ++ (P ∷ []))) → Each R (preorder P)
unfolding preorders
last-root R [] P h = each_first R (preorder P) [] h
last-root R (Q ∷ Qs) P h = last-root R Qs P (each-rest R (preorder Q) (preorders (Qs ++ (P ∷ []))) h)

-- without calls
basic-inline : (I : ℕ → Stmt) (P : Code) → Basic P → Basic (inline I P)
unfolding inline
basic-inline I ok b = tt
basic-inline I (tick d) b = tt
basic-inline I (assign d x e) b = b
basic-inline I (assign_elem d k i e) b = absurd b
basic-inline I (seq P Q) b = (basic-inline I P b.0, basic-inline I Q b.1)
basic-inline I (par P Q) b = (basic-inline I P b.0, basic-inline I Q b.1)
basic-inline I (ite d e P Q) b = (b.0, basic-inline I P b.1, basic-inline I Q b.2)
basic-inline I (while d e P) b = (b.0, basic-inline I P b.1)
basic-inline I (repeat d e P) b = (b.0, basic-inline I P b.1)
basic-inline I (loop d P) b = absurd b
basic-inline I exit b = absurd b
basic-inline I (call d p) b = absurd b

low-inline : (I : ℕ → Stmt) (P : Code) → Basic P → Low P → Low (inline I P)
unfolding inline
low-inline I ok b z = tt
low-inline I (tick d) b z = z
low-inline I (assign d x e) b z = (z.0, tt, tt)
low-inline I (assign_elem d k i e) b z = absurd b
low-inline I (seq P Q) b z = (low-inline I P b.0 z.0, low-inline I Q b.1 z.1)
low-inline I (par P Q) b z = (low-inline I P b.0 z.0, low-inline I Q b.1 z.1, tt)
low-inline I (ite d e P Q) b z = (z.0, tt, low-inline I P b.1 z.2, low-inline I Q b.2 z.3)
low-inline I (while d e P) b z = (z.0, tt, low-inline I P b.1 z.2)
low-inline I (repeat d e P) b z = (z.0, tt, low-inline I P b.1 z.2)
low-inline I (loop d P) b z = absurd b
low-inline I exit b z = absurd b
low-inline I (call d p) b z = absurd b

-- Programs -----------------------------------------------------------------------------------------------------------------------------------

module _ (options : Options) (s : List ℕ) (table : options.checked ≡ Accepted) (e : check_functional options s ≡ Accepted) where
  abbrev S : Program
  S = program_with (table_alone options) s

  whole : check_call (table_alone options) s ≡ Accepted
  whole = also-accepted options s table e

  abbrev A : Admitted S
  A = program-admitted (table_alone options) s whole

  pub main-basic : Basic S.main
  main-basic =
      basic-code S.main
      (last-root Plain S.bodies S.main
      (subst (λ (l : List Node). Each Plain l) (sym (program-nodes 0 s (accepted (table_alone options) s whole).readable 1))
      (each_from Plain s 0 (node_count s - 0) (λ j l. rw zero-add (none-added options s table e j (omega arith))))))

  pub meaning-basic : Basic (meaning S)
  unfolding meaning
  meaning-basic = basic-inline (inlined S.bodies) S.main main-basic

  pub meaning-formed : Formed (meaning S)
  unfolding meaning
  meaning-formed = (plain-main S A).formed

  pub meaning-low : Bytes s → Low (meaning S)
  unfolding meaning
  meaning-low bytes =
      low-inline (inlined S.bodies) S.main main-basic (at-main S (λ r P. Low P) (program-low (table_alone options) s bytes whole (length S.bodies)))
