-- Further instants. One, as its three passes make it: refusal 26 is seen in the third as the model sees it from the state before and the state after, and
-- what stands behind the state stays.
-- Assumes nothing.
use Rattle.std.specs.Prelude.{Err}
use mathlib.Core.Bool.{Bool, false, ◌&&◌}
use mathlib.Core.List.{List, ◌++◌}
use mathlib.Core.Logic.{inr}
use mathlib.Core.Path.{◌≡◌, refl, sym, ◌∙◌, ap, ap₂}
use Prim.Native.Nat.{ℕ, zero, suc, ◌+◌, ◌-◌, ◌<◌, ◌≤◌}
use native.Mathlib.Omega.{arith}
use lib.Dec.{eqb}
use lib.ListN.{length, get_or, take, drop, length-drop, take-append-drop}
use lib.Seq.{paste, take-paste, get_or-drop, ext_get_or}
use borrow.Author.Tests.{eqb-true}
use Rattle.model.specs.declared.Format.{Format}
use Rattle.model.specs.declared.Format.TheVariants.{Full, Compact}
use Rattle.model.specs.declared.Refusal.{Refusal}
use Rattle.model.specs.Word.{put32}
use Rattle.model.specs.Refusals.{first_fault, Accepted}
use Rattle.model.specs.Circuit.{Netlist, cell_at, high}
use Rattle.model.specs.State.{course, instant_of, base, now_at, fallen, left_at, value, up_to, aged, stored, shown, settled, counted, step_state, crowded, crowding}
use Rattle.laws.specs.Refusals.Laws.{by_bool, and-true}
use Rattle.laws.specs.Circuit.Ordered.{Ordered}
use Rattle.laws.specs.State.Bytes.{put16-other, get16-same, up_to-frame}
use Rattle.laws.specs.State.Lines.{least, below}
use Rattle.laws.specs.State.Passes.{ticked, one, two, three, one-high, two-high, one-behind, shown-put, counted-other, count-now, step_is}
use Rattle.netlist.specs.declared.header.Header.{Header}
use Rattle.state.specs.Stands.{Ready}
use Rattle.simulator.specs.Fits.{Spares, Continues}
use Rattle.simulator.specs.Levels.{valued, continued_with}
use Rattle.simulator.proofs.InFlight.{stepped-ready}
use Rattle.simulator.proofs.Continuing.{Going, going-low, again}
use Rattle.simulator.proofs.Passes.{settled-values}

faults-same : (f g : ℕ → ℕ) (i n : ℕ) → ((j : ℕ) → i ≤ j → j < i + n → f j ≡ g j) → first_fault f i n ≡ first_fault g i n
unfolding first_fault
faults-same f g i zero h = refl
faults-same f g i (suc n) h = rw (h i (omega arith) (omega arith), faults-same f g (i + 1) n (λ j a b. h j (omega arith) (omega arith))) refl

crowded-same : (net : Netlist) (s t v : List ℕ) (k : ℕ) → now_at Compact v (cell_at net.cells k).a ≡ now_at Compact t (cell_at net.cells k).a → left_at Compact v k ≡ left_at Compact s k
    → crowded Compact net v v k ≡ crowded Compact net s t k
unfolding crowded
crowded-same net s t v k a b = rw (a, b) refl

module _ (F : Format) (net : Netlist) (starts : Bool) (s : List ℕ) where
  -- the passes that lead to it
  pub valued-is : (n : ℕ) → length net.cells ≡ n → (t u r : List ℕ) → t ≡ put32 s 0 (instant_of s + 1) → u ≡ up_to (aged F) n t
      → r ≡ up_to (shown F net (value F net starts)) n u → r ≡ valued F net starts s
  unfolding two one ticked
  valued-is n e t u r a b c = rw (e, c, b, a) refl

  -- the third pass from there
  pub stepped : (n : ℕ) → length net.cells ≡ n → (r t : List ℕ) → r ≡ valued F net starts s → t ≡ counted F net (up_to (settled F net) n r) → t ≡ step_state F net starts s
  unfolding three
  stepped n e r t a b = b ∙ ap₂ (λ (m : ℕ) (x : List ℕ). counted F net (up_to (settled F net) m x)) (sym e) a ∙ sym (step_is F net starts s)

  -- it has the values of the state after, and the lines of the state before
  values-after : (a : ℕ) → now_at F (valued F net starts s) a ≡ now_at F (step_state F net starts s) a
  unfolding three
  values-after a =
      let v = valued F net starts s in
      let w = up_to (settled F net) (length net.cells) v in
      sym
      (ap (λ (t : List ℕ). now_at F t a) (step_is F net starts s)
      ∙ get16-same w (counted F net w) (base F a) (counted-other F net w (base F a) (inr (omega arith))) (counted-other F net w (base F a + 1) (inr (omega arith)))
      ∙ settled-values F net v (length net.cells) a)

  lines-before : (k : ℕ) → k < length net.cells → left_at F (valued F net starts s) k ≡ left_at F s k
  lines-before k l =
      two-high F net (value F net starts) (one F s (length net.cells)) (length net.cells) k (base F k + 6) l (omega arith) (omega (arith, least F))
      ∙ one-high F s (length net.cells) k (base F k + 6) (omega arith) (omega (arith, least F))

pub step-crowding : (F : Format) (net : Netlist) (starts : Bool) (s : List ℕ)
    → crowding F net (valued F net starts s) (valued F net starts s) ≡ crowding F net s (step_state F net starts s)
unfolding crowding
step-crowding Full net starts s = refl
step-crowding Compact net starts s =
    faults-same _ _ 0 (length net.cells)
    (λ k a b. crowded-same net s (step_state Compact net starts s) (valued Compact net starts s) k (values-after Compact net starts s (cell_at net.cells k).a) (lines-before Compact net starts s k (omega arith)))

module _ (F : Format) (net : Netlist) (ordered : Ordered net.cells) where
  -- an array's word stands before what is behind the state
  stored-behind : (t : List ℕ) (k : ℕ) → k < length net.cells → (j : ℕ) → base F (length net.cells) + 512 ≤ j → get_or (stored F net t k) j 0 ≡ get_or t j 0
  unfolding stored
  stored-behind t k l j h =
      by_bool (eqb (cell_at net.cells k).kind 42 && fallen F t (cell_at net.cells k).a)
      (λ e.
      let d = (ordered.stands k l (eqb-true _ _ (and-true (eqb (cell_at net.cells k).kind 42) _ e).0)).0 in
      rw e (put16-other t _ _ j (λ z. omega (arith, d)) (λ z. omega (arith, d))))
      (λ e. rw e refl)

  shown-behind : (w : List ℕ → ℕ → ℕ) (t : List ℕ) (k : ℕ) → k < length net.cells → (j : ℕ) → base F (length net.cells) + 512 ≤ j → get_or (shown F net w t k) j 0 ≡ get_or t j 0
  shown-behind w t k l j h = shown-put F net w t k j (inr (omega (arith, below F k (length net.cells) l, least F))) ∙ stored-behind t k l j h

  pub step-spares : (starts : Bool) (s : List ℕ) → Spares F (length net.cells) s (valued F net starts s)
  unfolding two
  step-spares starts s j h =
      up_to-frame (shown F net (value F net starts)) j (length net.cells) (one F s (length net.cells)) (λ x k l. shown-behind (value F net starts) x k l j h)
      ∙ one-behind F s (length net.cells) j (omega arith)

-- Instants one after another -------------------------------------------------------------------------------------------------------------

-- of n instants from s on, count are done, and t is the state so far
pub record Underway (F : Format) (net : Netlist) (starts : Bool) (f n : ℕ) (s t : List ℕ) (count : ℕ) : Type 0 where
  pub long : length t ≡ length s
  pub bytes : (j : ℕ) → get_or t j 0 < 256
  pub instant : instant_of t + (n - count) ≤ 1000000
  pub ready : Ready F net t
  pub going : Going F net starts f n s t count

module _ {F : Format} {net : Netlist} {starts : Bool} {f n : ℕ} {s : List ℕ} where
  pub underway-more : {t : List ℕ} {count : ℕ} (p : Underway F net starts f n s t count) → count < n → Ordered net.cells → base F (length net.cells) + 512 ≤ length s
      → (u : List ℕ) → length u ≡ length t → ((j : ℕ) → get_or u j 0 < 256) → crowding F net t (step_state F net starts t) ≡ Accepted → u ≡ step_state F net starts t
      → high (now_at F u f) ≡ false → Underway F net starts f n s u (count + 1)
  underway-more {t} {count} p l ordered room u long bytes free is low =
      let now : instant_of (step_state F net starts t) ≡ instant_of t + 1 = count-now F net starts t (omega (arith, p.long)) in
      record {
        long = long ∙ p.long;
        bytes = bytes;
        instant = rw is (omega (arith, now, p.instant));
        ready = stepped-ready F net ordered starts t u (omega (arith, p.long)) p.bytes p.ready is;
        going = rw is (going-low F net starts f p.going l free (rw is at low));
      }

-- Putting a state back -------------------------------------------------------------------------------------------------------------------

-- the first m bytes of s, which were kept in k, over a state t that has the others still
pub restored : (s t z k u : List ℕ) (m : ℕ) → k ≡ paste z 0 s m → u ≡ paste t 0 k m → m ≤ length s → length t ≡ length s
    → ((j : ℕ) → m ≤ j → get_or t j 0 ≡ get_or s j 0) → u ≡ s
restored s t z k u m x y a b h =
    let e : 0 + m ≡ m = omega arith in
    let q : take m (paste z 0 s m) ≡ take m s = ap (λ (j : ℕ). take j (paste z 0 s m)) (sym e) ∙ take-paste z 0 s m (omega arith) a in
    let p : drop (0 + m) t ≡ drop m s =
    ap (λ (j : ℕ). drop j t) e
    ∙ ext_get_or 0 (drop m t) (drop m s) (rw (length-drop m t, length-drop m s, b) refl) (λ i l. get_or-drop m t i 0 ∙ h (m + i) (omega arith) ∙ sym (get_or-drop m s i 0)) in
    y ∙ ap (λ (r : List ℕ). paste t 0 r m) x ∙ ap₂ (λ (x y : List ℕ). x ++ y) q p ∙ take-append-drop m s

-- so its good instants may be evaluated again
pub again-asks : (F : Format) (file : List ℕ) (h : Header) (budget count : ℕ) (s t : List ℕ) → t ≡ s → count ≤ budget → Continues F file h budget s → Continues F file h count t
again-asks F file h budget count s t e l p = rw e (p.0, omega (arith, p.1), p.2)

-- and are
pub redone : (F : Format) (net : Netlist) (starts : Bool) (f n count : ℕ) (s t : List ℕ) (r : Refusal) → t ≡ s → count ≡ (continued_with F net starts f n s).count
    → (continued_with F net starts f n s).check ≡ Err r
    → continued_with F net starts f count t ≡ course Accepted (continued_with F net starts f n s).state (continued_with F net starts f n s).count
redone F net starts f n count s t r e c z = rw (e, c) (again F net starts f n s r z)
