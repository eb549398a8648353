-- Refusal 12: the fault of a cell, a scan with one cell more, and how `netCheck` comes out when every cell is looked at. Assumes nothing.
use Rattle.std.proofs.Common.{◌≡◌, ℕ, ◌+◌, ◌<◌, ◌≤◌, Bool, true, false, not, ◌&&◌, ◌||◌, eqb, ltb, leb, List, [], ◌∷◌, length, take, sym, refl, ◌∙◌, add-one, arith, take_all, take-suc, ltb-false, ltb-true, le-ltb, lt-ltb, ne_eqb, eqb-true, le-leb}
use mathlib.Core.Bool.{or-false}
use borrow.Author.Tests.{eqb-false, lt-leb}
use lib.ListN.{get_or-eq_default}
use Rattle.model.specs.declared.Cell.{Cell}
use Rattle.model.specs.Word.{pick, bit}
use Rattle.model.specs.Refusals.{refuse, refuse_if, first, first_fault, fault_if, Accepted}
use Rattle.model.specs.Circuit.{cell_at, no_cell, control, memories, past_memories}
use Rattle.model.specs.NetlistFile.{keeps, placed, array_placed, cell_fault, net_check}
use Rattle.laws.specs.Refusals.Laws.{by_bool, by_le}
use Rattle.laws.specs.Refusals.Search.{searched-none, fault-here, fault-next, faults-end}
use Rattle.laws.specs.NetlistFile.Arrays.{past_end, past-from, past-until}
use Rattle.laws.specs.Numbering.Memories.{memories-append}
use Rattle.netlist.specs.declared.rules.Scan.{Scan}
use Rattle.netlist.specs.Scans.{Kept, Scanned}

pub bit-small : (b : Bool) → bit b ≤ 1
unfolding bit
bit-small true = omega arith
bit-small false = omega arith

pub cell-fault : (net : List Cell) (k : ℕ) (c : Cell) {p r q : Bool} → cell_at net k ≡ c → p ≡ placed k c → r ≡ array_placed (past_memories net 16) k c
    → q ≡ keeps net k c → cell_fault net k ≡ fault_if (not (p && (r && q))) 12
unfolding cell_fault
cell-fault net k c e f a g = rw (e, ← f, ← a, ← g) refl

-- a test of the kind of cell v, if it is below a limit; only then a kind has to be known
pub named : (net : List Cell) (limit v : ℕ) {kind : ℕ} (test : ℕ → Bool) → (v < limit → kind ≡ (cell_at net v).kind)
    → (ltb v limit && test kind) ≡ (ltb v limit && test (cell_at net v).kind)
named net limit v test e = by_bool (ltb v limit) (λ t. rw (t, e (ltb-true v limit t)) refl) (λ t. rw t refl)

-- A scan with one cell more ------------------------------------------------------------------------------------------------------------

pub scan-none : (net : List Cell) (finish : ℕ) {n : ℕ} → length net ≡ n
    → Scanned net finish 0 (record { n = n; finish = finish; kept = 0; memories = 0; arrays = 0; control = false })
unfolding memories
scan-none net finish e = record {
  count = sym e;
  end = refl;
  rules = record { low = omega arith; right = λ _. searched-none (cell_fault net) (length net); wrong = λ h. absurd (omega (arith, h)) };
  few = omega arith;
  counted = refl;
  past = by_le (past_memories net 16) 0 (λ h. rw (le-leb _ _ h) (omega (arith, h))) (λ h. rw (lt-leb _ _ h) refl);
  sort = rw (le-ltb finish 0 (omega arith)) refl;
}

module _ {net : List Cell} {finish k : ℕ} {s : Scan} (h : k < length net) (p : Scanned net finish k s) where
  kept_more : {m : ℕ} (q : Bool) → cell_fault net k ≡ fault_if (not q) 12 → m ≡ pick (eqb s.kept k && q) (k + 1) s.kept
      → Kept net (k + 1) m
  kept_more {m} q f g =
      let r = p.rules in
      by_bool (eqb s.kept k)
      (λ t. let e = eqb-true s.kept k t in
      by_bool q
      (λ u. let z : m ≡ k + 1 = rw (t, u) at g in
      record {
        low = omega (arith, z);
        right = λ _. fault-next (r.right e) h (rw u at f);
        wrong = λ l. absurd (omega (arith, l, z));
      })
      (λ u. let z : m ≡ k = rw (t, u, e) at g in
      record {
        low = omega (arith, z);
        right = λ l. absurd (omega (arith, l, z));
        wrong = λ _. rw z (fault-here (r.right e) 12 h (omega arith) (rw u at f));
      }))
      (λ t. let e = eqb-false s.kept k t in
      let z : m ≡ s.kept = rw t at g in
      record {
        low = omega (arith, z, r.low);
        right = λ l. absurd (omega (arith, l, z, r.low));
        wrong = λ l. rw z (r.wrong (omega (arith, l, z, r.low, e)));
      })

  memories-more : memories (take (k + 1) net) ≡ memories (take k net) + bit (eqb (cell_at net k).kind 40)
  unfolding memories
  memories-more = rw (add-one k, take-suc net k no_cell h) (memories-append (take k net) (cell_at net k ∷ []) ∙ omega arith)

  -- where the arrays' cells begin, as far as cell k tells
  past_more : {m : ℕ} → m ≡ pick (ltb s.memories 16) (k + 1) s.arrays
      → m ≡ pick (leb (past_memories net 16) (k + 1)) (past_memories net 16) (k + 1)
  past_more e =
      let q = past_memories net 16 in
      by_le 16 s.memories
      (λ l. let u : q ≤ k = past-from net 16 k h (omega (arith, l, p.counted)) in
      e ∙ rw (le-ltb _ _ l, p.past, le-leb q k u, le-leb q (k + 1) (omega (arith, u))) refl)
      (λ l. by_le q (k + 1)
      (λ u. let v : k < q = by_le q k (λ w. absurd (omega (arith, l, p.counted, past-until net 16 k h w))) (λ w. w) in
      e ∙ rw (lt-ltb _ _ l, le-leb q (k + 1) u) (omega (arith, u, v)))
      (λ u. e ∙ rw (lt-ltb _ _ l, lt-leb q (k + 1) u) refl))

  -- and the rule of their place needs no more
  pub placed-more : (c : Cell) (m : ℕ) → m ≡ pick (ltb s.memories 16) (k + 1) s.arrays
      → array_placed m k c ≡ array_placed (past_memories net 16) k c
  unfolding array_placed
  placed-more c m e =
      let q = past_memories net 16 in
      by_le q (k + 1)
      (λ u. let z : m ≡ q = rw (le-leb q (k + 1) u) at (past_more e) in rw z refl)
      (λ u. let z : m ≡ k + 1 = rw (lt-leb q (k + 1) u) at (past_more e) in
      rw (z, lt-leb (k + 1) k (omega arith), lt-leb q k (omega (arith, u))) refl)

  sort-more : (s.control || (eqb s.finish k && control (cell_at net k).kind))
      ≡ (ltb finish (k + 1) && control (cell_at net finish).kind)
  sort-more =
      rw (p.sort, p.end)
      (by_bool (ltb finish k)
      (λ t. let l = ltb-true finish k t in
      rw (t, ne_eqb finish k (λ e. omega (arith, e, l)), lt-ltb finish (k + 1) (omega (arith, l))) (or-false _))
      (λ t. let l = ltb-false finish k t in
      by_bool (eqb finish k) (λ u. let e = eqb-true finish k u in rw (t, u, e, lt-ltb k (k + 1) (omega arith)) refl)
      (λ u. rw (t, u, le-ltb finish (k + 1) (omega (arith, l, eqb-false finish k u))) refl)))

  pub scan-more : {c : Cell} {kept m v : ℕ} {w : Bool} (q : Bool) → cell_at net k ≡ c → cell_fault net k ≡ fault_if (not q) 12
      → kept ≡ pick (eqb s.kept k && q) (k + 1) s.kept → v ≡ pick (ltb s.memories 16) (k + 1) s.arrays
      → m ≡ bit (eqb c.kind 40) → w ≡ control c.kind
      → Scanned net finish (k + 1) (record {
        n = s.n;
        finish = s.finish;
        kept = kept;
        memories = s.memories + m;
        arrays = v;
        control = s.control || (eqb s.finish k && w);
      })
  scan-more {c} {m = m} q e f g a i j =
      record {
        count = p.count;
        end = p.end;
        rules = kept_more q f g;
        few = omega (arith, p.few, i, bit-small (eqb c.kind 40));
        counted = rw (i, ← e, p.counted) (sym memories-more);
        past = past_more a;
        sort = rw (j, ← e) sort-more;
      }

-- How the check comes out --------------------------------------------------------------------------------------------------------------

module _ {net : List Cell} {finish : ℕ} {s : Scan} (p : Scanned net finish (length net) s) where
  pub rules-broken : s.kept < s.n → refuse 12 s.kept ≡ net_check net finish
  unfolding net_check
  rules-broken h = rw (← p.rules.wrong (omega (arith, h, p.count))) refl

  module _ (h : s.n ≤ s.kept) where
    all-kept : first_fault (cell_fault net) 0 (length net) ≡ Accepted
    all-kept = sym (faults-end (p.rules.right (omega (arith, h, p.count, p.rules.low))) (omega arith))

    all-counted : memories net ≡ s.memories
    all-counted = rw (take_all (length net) net (omega arith)) at (sym p.counted)

    arrays-begin : s.arrays ≡ past_memories net 16
    arrays-begin = rw (le-leb (past_memories net 16) (length net) (past_end net 16)) at p.past

    abbrev wrong : Bool
    wrong = not (eqb s.memories 16) || ltb s.n (s.arrays + 8)

    count-checks : net_check net finish ≡ first (refuse_if wrong 12 s.n ∷ refuse_if (not (control (cell_at net finish).kind)) 12 finish ∷ [])
    unfolding net_check
    count-checks =
        rw (all-kept, all-counted, ← arrays-begin, ← p.count)
        (by_bool (eqb s.memories 16) (λ t. rw t refl) (λ t. rw t refl))

    pub count-wrong : wrong ≡ true → refuse 12 s.n ≡ net_check net finish
    count-wrong e = rw (count-checks, e) refl

    module _ (e : wrong ≡ false) where
      finish-sort : s.control ≡ control (cell_at net finish).kind
      unfolding control
      finish-sort =
          p.sort ∙ by_bool (ltb finish (length net)) (λ t. rw t refl)
          (λ t. rw (t, get_or-eq_default net no_cell {n = finish} (ltb-false finish (length net) t)) refl)

      pub finish-right : s.control ≡ true → Accepted ≡ net_check net finish
      finish-right f = rw (count-checks, e, ← finish-sort, f) refl

      pub finish-wrong : s.control ≡ false → refuse 12 s.finish ≡ net_check net finish
      finish-wrong f = rw (count-checks, e, ← finish-sort, f, p.end) refl
