-- The numbers that checks give, in the published order: what is found first is one of them, and a refusal leaves what was lent as it was.
-- Assumes nothing.
use Rattle.model.specs.declared.Options.{Options}
use Rattle.std.specs.Prelude.{◌≡◌, Bool, not, ◌&&◌, ◌||◌, List, [], ◌∷◌, ◌++◌, ℕ, ◌+◌, ◌/◌, ◌%◌, ◌≤◌, eqb, ltb, leb, get_or, Ok, Err}
use Rattle.std.proofs.Math.Path.{refl}
use Rattle.std.proofs.Common.{sym, ap, ◌∙◌, ap₂, true≢false, inr, ⊎_elim, arith, eq-eqb, eqb-true}
use Rattle.std.proofs.Math.Bool.{true, false}
use Rattle.std.proofs.Math.Logic.{inl}
use Rattle.std.proofs.Math.ListN.{length}
use Rattle.laws.specs.NetlistFile.ReadWrite.{writing-verdict}
use Rattle.model.specs.declared.Node.{Node}
use Rattle.model.specs.declared.Cell.{Cell}
use Rattle.model.specs.declared.Format.{Format}
use Rattle.model.specs.declared.Format.TheVariants.{Full, Compact}
use Rattle.model.specs.declared.Answer.{Answer}
use Rattle.model.specs.Word.{pick}
use Rattle.model.specs.Refusals.{refuse, number_of, refuse_if, first, first_fault, fault_if, Checked, Accepted}
use Rattle.model.specs.Program.{time_in, node_at, nodes_at, node_count, row_of, stmt_at, least, program_of, roots, Code, Stmt, ok, tick, assign, assign_elem, seq, par, ite, while, repeat, loop, exit, call, preorder_e, preorder}
use Rattle.model.specs.Procedures.{inline, inlined, reached}
use Rattle.model.specs.ProgramChecks.{unused_set, absent, node_fault, children, reading, root_sorts, searched, in_roots, delay_fault, shared_fault, shares, conflict_fault, conflicts, program_length_wrong, too_many_procedures, program_checks, check_of}
use Rattle.model.specs.Rules.{Costs, Run, done, at_end, at_exit, still, run}
use Rattle.model.specs.Circuit.{high, cell_at, control, memories, past_memories}
use Rattle.model.specs.NetlistFile.{net_of, pulse_of, pulse_wrong, word_sum, block_at, header_right, placed, array_placed, keeps, file_length_wrong, sum_fault, count_wrong, header_fault, cell_fault, net_checks, net_check, file_checks, file_check, blocks_for, cells_of, count_of, finish_of}
use Rattle.model.specs.TimeTables.{given_checks, given_check, byte_wrong, table_fault, table_sum_wrong, table_checks, TimeTable, built_in, given, verdict_of, Given, load}
use Rattle.model.specs.State.{instant_of, state_size, now_at, sound}
use Rattle.model.specs.Calls.{is_too_long, format_check, verdict, written_verdict, short, writing, compiled_file, netlist_checks, word_at, shows, running, continue_checks, over_budget, full_run_checks, reference_answer, answering}
use Rattle.model.specs.CellSlices.{miscounted, placing}
use Rattle.model.specs.RefusalPromises.{given_numbers, long_numbers, among, Gives, InOrder, Refuses, table_numbers, program_numbers, file_numbers, just, Leaves}
use Rattle.laws.specs.Refusals.Laws.{and-true, not-refused, first_found, fault-number}
use Rattle.theory.specs.Promises.Replay.{no-refusal}

-- The numbers that a check gives -------------------------------------------------------------------------------------------------------

pub gives_one : (ns : List ℕ) (k p : ℕ) → among k ns ≡ true → Gives ns (refuse k p)
gives_one ns k p h = inr h

among-just : (k : ℕ) → among k (just k) ≡ true
among-just k = ap (λ b. b || false) (eq-eqb k k refl)

pub gives-if : (b : Bool) (k p : ℕ) → Gives (just k) (refuse_if b k p)
gives-if true k p = gives_one (just k) k p (among-just k)
gives-if false k p = inl refl

pub gives-pick : (ns : List ℕ) (b : Bool) (c d : Checked) → Gives ns c → Gives ns d → Gives ns (pick b c d)
gives-pick ns true c d f g = f
gives-pick ns false c d f g = g

-- a fault's number is one of these, or there is none
abbrev Faulty : List ℕ → ℕ → Type 0
Faulty ns x = 1 ≤ x → among x ns ≡ true

pub gives-fault : (ns : List ℕ) (fault : ℕ → ℕ) (n : ℕ) → ((i : ℕ) → Faulty ns (fault i)) → Gives ns (first_fault fault 0 n)
gives-fault ns fault n h = go (first_fault fault 0 n) refl
  where
    go : (c : Checked) → first_fault fault 0 n ≡ c → Gives ns c
    go (Ok _) e = inl refl
    go (Err r) e =
        let g = fault-number fault n r e in
        inr (ap (λ k. among k ns) (sym g.0) ∙ h r.place (omega (arith, g.0, g.1)))

pub faulty-if : (b : Bool) (k : ℕ) → Faulty (just k) (fault_if b k)
faulty-if true k l = among-just k
faulty-if false k l = absurd (omega arith)

node-faulty : (a : Node) → Faulty (2 ∷ 3 ∷ 4 ∷ []) (node_fault a)
unfolding node_fault
node-faulty a =
    go (eqb (row_of a.kind).sort 0) (unused_set (row_of a.kind).delay a.delay || unused_set (row_of a.kind).number a.n) (absent (row_of a.kind).number a.n)
  where
    go : (p q r : Bool) → Faulty (2 ∷ 3 ∷ 4 ∷ []) (pick p 2 (pick q 3 (fault_if r 4)))
    go true q r l = refl
    go false true r l = refl
    go false false true l = refl
    go false false false l = absurd (omega arith)

reading-gives : (ns : List Node) (ws : List ℕ) (i : ℕ) → Gives (5 ∷ 6 ∷ []) (reading ws i ns)
unfolding reading
reading-gives [] [] i = inl refl
reading-gives [] (w ∷ ws) i = gives_one (5 ∷ 6 ∷ []) 6 i refl
reading-gives (a ∷ ns) [] i = gives_one (5 ∷ 6 ∷ []) 6 i refl
reading-gives (a ∷ ns) (w ∷ ws) i =
    gives-pick (5 ∷ 6 ∷ []) (eqb (row_of a.kind).sort w) (reading (children a.kind ++ ws) (i + 1) ns) (refuse 5 i)
    (reading-gives ns (children a.kind ++ ws) (i + 1)) (gives_one (5 ∷ 6 ∷ []) 5 i refl)

-- each of these lists has no number but those of a list
abbrev pub amid : List ℕ → List ℕ → Bool
amid whole [] = true
amid whole (n ∷ ns) = among n whole && amid whole ns

abbrev pub within : List ℕ → List (List ℕ) → Bool
within whole [] = true
within whole (ns ∷ nss) = amid whole ns && within whole nss

among-more : (whole ns : List ℕ) (k : ℕ) → amid whole ns ≡ true → among k ns ≡ true → among k whole ≡ true
among-more whole [] k w h = absurd (true≢false (sym h))
among-more whole (n ∷ ns) k w h = go (eqb k n) refl (among-more whole ns k (and-true (among n whole) _ w).1)
  where
    go : (b : Bool) → eqb k n ≡ b → (among k ns ≡ true → among k whole ≡ true) → among k whole ≡ true
    go true e more = ap (λ j. among j whole) (eqb-true k n e) ∙ (and-true (among n whole) _ w).0
    go false e more = more (ap (λ b. b || among k ns) (sym e) ∙ h)

-- what is found first has the number of one of the checks
pub gives-first : (whole : List ℕ) (nss : List (List ℕ)) (cs : List Checked) → within whole nss ≡ true → InOrder nss cs → Gives whole (first cs)
gives-first whole [] [] w o = inl refl
gives-first whole [] (c ∷ cs) w o = absurd o
gives-first whole (ns ∷ nss) [] w o = absurd o
gives-first whole (ns ∷ nss) (Ok _ ∷ cs) w o = gives-first whole nss cs (and-true (amid whole ns) _ w).1 o.1
gives-first whole (ns ∷ nss) (Err q ∷ cs) w o =
    ⊎_elim (λ e. not-refused e) (λ g. inr (among-more whole ns q.number (and-true (amid whole ns) _ w).0 g)) o.0

-- what a search over exits and calls gives, each exit and each call gives
both-give : (ns : List ℕ) (c d : Checked) → amid ns ns ≡ true → Gives ns c → Gives ns d → Gives ns (first (c ∷ d ∷ []))
both-give ns c d w f g = gives-first ns (ns ∷ ns ∷ []) (c ∷ d ∷ []) (ap₂ ◌&&◌ w (ap (λ (x : Bool). x && true) w)) (f, (g, tt))

module _ (k : ℕ) (exits : Bool → ℕ → Checked) (calls : ℕ → ℕ → Checked) (of-exit : (b : Bool) (i : ℕ) → Gives (just k) (exits b i))
    (of-call : (p i : ℕ) → Gives (just k) (calls p i)) where
  two-give : (c d : Checked) → Gives (just k) c → Gives (just k) d → Gives (just k) (first (c ∷ d ∷ []))
  two-give c d = both-give (just k) c d (ap (λ (x : Bool). x && true) (among-just k))

  search-gives : (b : Bool) (P : Code) (i : ℕ) → Gives (just k) (searched exits calls b P i)
  unfolding searched
  search-gives b ok i = inl refl
  search-gives b (tick d) i = inl refl
  search-gives b (assign d x e) i = inl refl
  search-gives b (assign_elem d v j e) i = inl refl
  search-gives b (seq P Q) i = two-give _ _ (search-gives b P (i + 1)) (search-gives b Q (i + 1 + length (preorder P)))
  search-gives b (par P Q) i = two-give _ _ (search-gives false P (i + 1)) (search-gives false Q (i + 1 + length (preorder P)))
  search-gives b (ite d e P Q) i =
      let j = i + 1 + length (preorder_e e) in
      two-give _ _ (search-gives b P j) (search-gives b Q (j + length (preorder P)))
  search-gives b (while d e P) i = search-gives b P (i + 1 + length (preorder_e e))
  search-gives b (repeat d e P) i = search-gives b P (i + 1 + length (preorder_e e))
  search-gives b (loop d P) i = search-gives true P (i + 1)
  search-gives b exit i = of-exit b i
  search-gives b (call d p) i = of-call p i

-- over all roots
roots-give : (k : ℕ) (test : ℕ → Code → ℕ → Checked) → ((r : ℕ) (P : Code) (i : ℕ) → Gives (just k) (test r P i)) → (r : ℕ) (Ps : List Code) (i : ℕ)
    → Gives (just k) (in_roots test r Ps i)
unfolding in_roots
roots-give k test h r [] i = inl refl
roots-give k test h r (P ∷ Ps) i =
    both-give (just k) _ _ (ap (λ (x : Bool). x && true) (among-just k)) (h r P i) (roots-give k test h (r + 1) Ps (i + length (preorder P)))

-- Programs and files -------------------------------------------------------------------------------------------------------------------

abbrev check_numbers : List (List ℕ)
check_numbers = just 1 ∷ (2 ∷ 3 ∷ 4 ∷ []) ∷ (5 ∷ 6 ∷ []) ∷ just 22 ∷ just 24 ∷ just 7 ∷ just 25 ∷ just 8 ∷ []

pub program-order : (τ : ℕ → ℕ) (w k : ℕ) (s : List ℕ) → InOrder check_numbers (program_checks τ w k s)
unfolding delay_fault shared_fault conflict_fault
program-order τ w k s =
    let S = program_of w k s in
    let bodies = S.bodies in (
      gives-if (too_many_procedures k || program_length_wrong s) 1 0,
      (
        gives-fault (2 ∷ 3 ∷ 4 ∷ []) (λ i. node_fault (node_at s i)) (node_count s) (λ i. node-faulty (node_at s i)),
        (
          reading-gives (nodes_at s 0) (root_sorts k) 0,
          (
            roots-give 22 _ (λ r P i. search-gives 22 _ _ (λ b i. gives-if (not b) 22 i) (λ p i. inl refl) false P i) 0 (roots S) 0,
            (
              roots-give 24 _ (λ r P i. search-gives 24 _ _ (λ b i. inl refl) (λ p i. gives-if (leb r p) 24 i) false P i) 0 (roots S) 0,
              (
                gives-fault (just 7) (delay_fault τ w s) (node_count s) (λ i. faulty-if (ltb (node_at s i).delay (least τ w (stmt_at s i))) 7),
                (
                  gives-fault (just 25) (shared_fault bodies s) (node_count s)
                      (λ i. faulty-if (shares (reached bodies) (length bodies) (stmt_at s i)) 25),
                  (
                    gives-fault (just 8) (conflict_fault bodies s) (node_count s)
                        (λ i. faulty-if (conflicts (inline (inlined bodies) (stmt_at s i))) 8),
                    tt,
                  ),
                ),
              ),
            ),
          ),
        ),
      ),
    )

pub check-gives : (options : Options) (s : List ℕ) → Gives program_numbers (check_of options s)
unfolding check_of
check-gives options s =
    gives-first program_numbers check_numbers (program_checks (time_in options.times) options.pulse options.procedures s) refl
    (program-order (time_in options.times) options.pulse options.procedures s)

pub table-order : (file : List ℕ) → InOrder (just 19 ∷ just 20 ∷ just 21 ∷ []) (table_checks file)
unfolding table_fault
table-order file = (
  gives-if (not (eqb (length file) 512)) 19 0,
  (gives-if (table_sum_wrong file) 20 0, (gives-fault (just 21) (table_fault file) 512 (λ i. faulty-if (byte_wrong i (get_or file i 0)) 21), tt)),
)

verdict-gives : (T : TimeTable) → Gives table_numbers (verdict_of T)
unfolding verdict_of
verdict-gives built_in = inl refl
verdict-gives (given file) = gives-first table_numbers (just 19 ∷ just 20 ∷ just 21 ∷ []) (table_checks file) refl (table-order file)

pub table-gives : (G : Given) → Gives table_numbers (load G).checked
unfolding load
table-gives G = verdict-gives G.table

pub given-order : (G : Given) → InOrder (just 27 ∷ table_numbers ∷ []) (given_checks (load G))
given-order G = (gives-if (pulse_wrong (load G).pulse) 27 0, (table-gives G, tt))

pub given-gives : (G : Given) → Gives given_numbers (given_check (load G))
unfolding given_check
given-gives G = gives-first given_numbers (just 27 ∷ table_numbers ∷ []) (given_checks (load G)) refl (given-order G)

pub net-gives : (net : List Cell) (f : ℕ) → Gives (just 12) (net_check net f)
unfolding net_check cell_fault
net-gives net f =
    gives-first (just 12) (just 12 ∷ just 12 ∷ just 12 ∷ just 12 ∷ []) (net_checks net f) refl (
      gives-fault (just 12) (cell_fault net) (length net)
          (λ i. let c = cell_at net i in faulty-if (not (placed i c && (array_placed (past_memories net 16) i c && keeps net i c))) 12),
      (
        gives-if (not (eqb (memories net) 16)) 12 (length net),
        (gives-if (ltb (length net) (past_memories net 16 + 8)) 12 (length net), (gives-if (not (control (cell_at net f).kind)) 12 f, tt)),
      ),
    )

pub miscount-gives : (cs : List Cell) (f : ℕ) → Gives (just 11) (miscounted cs f)
miscount-gives cs f = gives-if (count_wrong (blocks_for (length cs)) (length cs) f) 11 0

pub file-order : (s : List ℕ) → InOrder (just 9 ∷ just 10 ∷ just 11 ∷ just 11 ∷ just 12 ∷ []) (file_checks s)
unfolding sum_fault header_fault
file-order s =
    let m = length s / 512 in (
      gives-if (file_length_wrong s) 9 0,
      (
        gives-fault (just 10) (sum_fault s) m (λ b. faulty-if (not (eqb (word_sum (block_at s b) % 65536) 0)) 10),
        (
          gives-if (count_wrong m (count_of s) (finish_of s) || pulse_wrong (pulse_of s)) 11 0,
          (gives-fault (just 11) (header_fault s) m (λ b. faulty-if (not (header_right (pulse_of s) (count_of s) (finish_of s) b (block_at s b))) 11), (net-gives (cells_of s) (finish_of s), tt)),
        ),
      ),
    )

pub file-gives : (s : List ℕ) → Gives file_numbers (file_check s)
unfolding file_check
file-gives s = gives-first file_numbers (just 9 ∷ just 10 ∷ just 11 ∷ just 11 ∷ just 12 ∷ []) (file_checks s) refl (file-order s)

pub format-gives : (F : Format) (file : List ℕ) → Gives (long_numbers F) (format_check F file)
unfolding is_too_long
format-gives Full file = inl refl
format-gives Compact file = gives-if (ltb 1 (pulse_of file)) 27 0

pub short-gives : (has needs : ℕ) → Gives (just 14) (short has needs)
short-gives has needs = gives-if (ltb has needs) 14 0

pub budget-gives : (n : ℕ) → Gives (just 13) (over_budget n)
budget-gives n = gives-if (ltb 1000000 n) 13 0

-- Calls --------------------------------------------------------------------------------------------------------------------------------

-- what an answer says of refusals is what the checks found
pub running-verdict : (F : Format) (c : Checked) (file s : List ℕ) (n : ℕ) (lent : List ℕ) → verdict (running F c file s n lent).answer.outcome ≡ c
unfolding running verdict shows
running-verdict F (Ok _) file s n lent = no-refusal (high (now_at F s (finish_of file)))
running-verdict F (Err r) file s n lent = refl

running-leaves : (F : Format) (c : Checked) (file s : List ℕ) (n : ℕ) (lent : List ℕ) → Leaves c lent (running F c file s n lent).lent
unfolding running
running-leaves F (Ok _) file s n lent l = absurd (omega arith)
running-leaves F (Err q) file s n lent l = refl

writing-leaves : (c : Checked) (result : List ℕ) (n f : ℕ) (lent : List ℕ) → Leaves c lent (writing c result n f lent).lent
unfolding writing
writing-leaves (Ok _) result n f lent l = absurd (omega arith)
writing-leaves (Err q) result n f lent l = refl

pub placing-verdict : (c : Checked) (k : ℕ) (cs : List Cell) (n f : ℕ) (lent : List Cell) → written_verdict (placing c k cs n f lent).answer ≡ c
unfolding placing written_verdict
placing-verdict (Ok _) k cs n f lent = refl
placing-verdict (Err r) k cs n f lent = refl

pub placing-leaves : (c : Checked) (k : ℕ) (cs : List Cell) (n f : ℕ) (lent : List Cell) → Leaves c lent (placing c k cs n f lent).lent
unfolding placing
placing-leaves (Ok _) k cs n f lent l = absurd (omega arith)
placing-leaves (Err q) k cs n f lent l = refl

pub answering-verdict : (c : Checked) (a : Answer) → verdict a.outcome ≡ Accepted → verdict (answering c a).outcome ≡ c
unfolding answering verdict
answering-verdict (Ok _) a h = h
answering-verdict (Err r) a h = refl

-- no refusal has the number 0
abbrev pub positive : List (List ℕ) → Bool
positive [] = true
positive (ns ∷ nss) = not (among 0 ns) && positive nss

first-positive : (nss : List (List ℕ)) (cs : List Checked) → positive nss ≡ true → InOrder nss cs → number_of (first cs) ≡ 0 → first cs ≡ Accepted
first-positive [] [] w o e = refl
first-positive [] (c ∷ cs) w o e = absurd o
first-positive (ns ∷ nss) [] w o e = absurd o
first-positive (ns ∷ nss) (Ok _ ∷ cs) w o e = first-positive nss cs (and-true (not (among 0 ns)) _ w).1 o.1 e
first-positive (ns ∷ nss) (Err q ∷ cs) w o e =
    ⊎_elim (λ a. a)
    (λ g. absurd (true≢false (sym (and-true (not (among 0 ns)) _ w).0 ∙ ap not (ap (λ k. among k ns) (sym e) ∙ g)))) o.0

pub refuses : (nss : List (List ℕ)) (cs : List Checked) → positive nss ≡ true → InOrder nss cs → Refuses nss cs (first cs)
refuses nss cs w o = record { found = first_found cs (first-positive nss cs w o); ordered = o }

-- a call that runs, and a call that writes
pub run-refuses : (F : Format) (nss : List (List ℕ)) (cs : List Checked) → positive nss ≡ true → InOrder nss cs → (file s : List ℕ) (n : ℕ) (lent : List ℕ) →
    let c = verdict (running F (first cs) file s n lent).answer.outcome in
    Refuses nss cs c × Leaves c lent (running F (first cs) file s n lent).lent
run-refuses F nss cs w o file s n lent =
    rw (running-verdict F (first cs) file s n lent) (refuses nss cs w o, running-leaves F (first cs) file s n lent)

pub write-refuses : (nss : List (List ℕ)) (cs : List Checked) → positive nss ≡ true → InOrder nss cs → (result : List ℕ) (n f : ℕ) (lent : List ℕ) →
    let c = written_verdict (writing (first cs) result n f lent).answer in
    Refuses nss cs c × Leaves c lent (writing (first cs) result n f lent).lent
write-refuses nss cs w o result n f lent =
    rw (writing-verdict (first cs) result n f lent) (refuses nss cs w o, writing-leaves (first cs) result n f lent)

pub reference-runs : (κ : Costs) (n : ℕ) (P : Stmt) (words : List ℕ) → verdict (reference_answer n (run κ n P (word_at words))).outcome ≡ Accepted
unfolding reference_answer verdict
reference-runs κ n P words = go (run κ n P (word_at words))
  where
    go : (r : Run) → verdict (reference_answer n r).outcome ≡ Accepted
    go (done at_end t σ) = refl
    go (done at_exit t σ) = refl
    go still = refl

pub compile-order : (options : Options) (program lent : List ℕ) → InOrder (program_numbers ∷ just 14 ∷ []) (netlist_checks options program lent)
compile-order options program lent = (check-gives options program, (short-gives (length lent) (length (compiled_file options program)), tt))

pub run-order : (options : Options) (program words : List ℕ) (n : ℕ) (for_file lent : List ℕ)
    → InOrder (program_numbers ∷ just 13 ∷ just 14 ∷ just 14 ∷ just 14 ∷ []) (full_run_checks options program words n for_file lent)
run-order options program words n for_file lent =
    let file = compiled_file options program in
    (check-gives options program, (budget-gives n, (short-gives (length words) 544, (short-gives (length for_file) (length file), (short-gives (length lent) (state_size Full (net_of file)), tt)))))

-- continuing by n, and what more is checked after it
pub going-order : (F : Format) (file : List ℕ) (n : ℕ) (lent : List ℕ) (nss : List (List ℕ)) (cs : List Checked) → InOrder nss cs
    → InOrder (file_numbers ∷ long_numbers F ∷ just 14 ∷ just 15 ∷ just 16 ∷ nss) (continue_checks F file n lent ++ cs)
going-order F file n lent nss cs o = (
  file-gives file,
  (
    format-gives F file,
    (
      short-gives (length lent) (state_size F (net_of file)),
      (gives-if (not (sound F (net_of file) lent)) 15 0, (gives-if (ltb 1000000 (instant_of lent + n)) 16 0, o)),
    ),
  ),
)

-- a full run of a program, after whatever checks
pub run-both-refuses : (nss : List (List ℕ)) (cs : List Checked) → positive nss ≡ true → InOrder nss cs → (file s : List ℕ) (n : ℕ) (for_file lent : List ℕ) →
    let c = verdict (running Full (first cs) file s n lent).answer.outcome in
    Refuses nss cs c × Leaves c for_file (writing (first cs) file (length file) 0 for_file).lent × Leaves c lent (running Full (first cs) file s n lent).lent
run-both-refuses nss cs w o file s n for_file lent =
    rw (running-verdict Full (first cs) file s n lent)
    (refuses nss cs w o, writing-leaves (first cs) file (length file) 0 for_file, running-leaves Full (first cs) file s n lent)
