-- A full state's bytes follow from what it shows: two states of one netlist that show the same, with clean cells and the same header and tail, are equal.
-- Assumes nothing.
use Rattle.std.specs.Prelude.{List, [], ◌∷◌, ◌≡◌, ℕ, zero, suc, ◌+◌, ◌-◌, ◌*◌, ◌/◌, ◌%◌, ◌^◌, ◌<◌, ◌≤◌, eqb, length, get_or}
use Rattle.std.proofs.Math.Path.{refl, ap}
use Rattle.std.proofs.Common.{sym, ◌∙◌, ap₂, pow-suc, eqb-true}
use native.Mathlib.Omega.{arith}
use Rattle.std.proofs.Math.Decide.{ℕ_discrete, dec_lt}
use Rattle.std.proofs.lemmas.Bool.{eqb-false}
use Rattle.model.specs.declared.Merge.{Merge}
use Rattle.model.specs.declared.Format.TheVariants.{Full}
use Rattle.model.specs.Word.{pick, get16}
use Rattle.model.specs.Circuit.{Netlist, cell_at, high, merges}
use Rattle.model.specs.State.{base, state_size, element_now, now_at, before_at, held_at, remaining_byte, remaining_at, line_bit, line_at}
use Rattle.laws.specs.Refusals.Laws.{by_bool}
use Rattle.laws.specs.Circuit.Shapes.{bit_le}
use Rattle.laws.specs.State.Clean.{Clean}
use Rattle.engine_laws.specs.Sets.{digit, digit-zero, digit-suc}

-- Lists and bytes --------------------------------------------------------------------------------------------------------------------------

pub same_lists : (s t : List ℕ) → length s ≡ length t → ((j : ℕ) → get_or s j 0 ≡ get_or t j 0) → s ≡ t
same_lists [] [] l e = refl
same_lists [] (y ∷ t) l e = absurd (omega arith)
same_lists (x ∷ s) [] l e = absurd (omega arith)
same_lists (x ∷ s) (y ∷ t) l e = ap₂ (λ (a : ℕ) (b : List ℕ). a ∷ b) (e 0) (same_lists s t (omega arith) (λ j. e (suc j)))

-- a number of k digits is what its digits say
pub same_digits : (k x y : ℕ) → x < 2 ^ k → y < 2 ^ k → ((c : ℕ) → c < k → digit x c ≡ digit y c) → x ≡ y
same_digits zero x y a b e = omega arith
same_digits (suc k) x y a b e =
    let a' : x < 2 ^ k * 2 = rw (pow-suc 2 k) at a in
    let b' : y < 2 ^ k * 2 = rw (pow-suc 2 k) at b in
    let low : x % 2 ≡ y % 2 = sym (digit-zero x) ∙ e 0 (omega arith) ∙ digit-zero y in
    let high : x / 2 ≡ y / 2 = same_digits k (x / 2) (y / 2) (omega arith) (omega arith) (λ c l. sym (digit-suc x c) ∙ e (suc c) (omega arith) ∙ digit-suc y c) in
    omega arith

same_bit : (x y : ℕ) → x ≤ 1 → y ≤ 1 → high x ≡ high y → x ≡ y
same_bit x y a b e =
    by_bool (high x) (λ p. eqb-true x 1 p ∙ sym (eqb-true y 1 (sym e ∙ p)))
    (λ p. let q = eqb-false x 1 p in let r = eqb-false y 1 (sym e ∙ p) in omega (arith, q, r))

-- States -------------------------------------------------------------------------------------------------------------------------------------

module _ (net : Netlist) (s t : List ℕ) (few : (j : ℕ) → get_or s j 0 < 256) (few' : (j : ℕ) → get_or t j 0 < 256) where
  word_low : (i : ℕ) → get16 s i ≡ get16 t i → get_or s i 0 ≡ get_or t i 0
  unfolding get16
  word_low i e = omega (arith, few i, few' i)

  word-high : (i : ℕ) → get16 s i ≡ get16 t i → get_or s (i + 1) 0 ≡ get_or t (i + 1) 0
  unfolding get16
  word-high i e = omega (arith, few i, few' i)

  -- the two show the same of cell k, and have nothing else in it
  pub record Alike (k : ℕ) : Type 0 where
    pub now : now_at Full s k ≡ now_at Full t k
    pub ago : before_at Full s k ≡ before_at Full t k
    pub held : held_at Full s k ≡ held_at Full t k
    pub remaining : (cell_at net.cells k).kind ≡ 32 → remaining_at Full s k ≡ remaining_at Full t k
    pub line : (cell_at net.cells k).kind ≡ 34 → (i : ℕ) → i < 256 → line_at Full net s k i ≡ line_at Full net t k i
    pub clean : Clean Full net s k
    pub clean' : Clean Full net t k

  held_low : (u : List ℕ) (k j : ℕ) → Clean Full net u k → base Full k + 4 ≤ j → j < base Full k + 6 → get_or u j 0 ≤ 1
  held_low u k j c a b =
      omega (arith, c.bits j a b, bit_le (pick (eqb j (base Full k + 4)) (merges (cell_at net.cells k).kind) (eqb (cell_at net.cells k).kind 38)))

  held-a : (k : ℕ) → held_at Full s k ≡ held_at Full t k → high (get_or s (base Full k + 4) 0) ≡ high (get_or t (base Full k + 4) 0)
  unfolding held_at
  held-a k e = ap (λ (m : Merge). m.a) e

  held-b : (k : ℕ) → held_at Full s k ≡ held_at Full t k → high (get_or s (base Full k + 5) 0) ≡ high (get_or t (base Full k + 5) 0)
  unfolding held_at
  held-b k e = ap (λ (m : Merge). m.b) e

  line-byte : (k i : ℕ) → i < 32 → ((c : ℕ) → c < 256 → line_at Full net s k c ≡ line_at Full net t k c)
      → get_or s (base Full k + 8 + i) 0 ≡ get_or t (base Full k + 8 + i) 0
  unfolding line_bit digit
  line-byte k i l e = same_digits 8 _ _ (few _) (few' _) at
    where
      at : (c : ℕ) → c < 8 → digit (get_or s (base Full k + 8 + i) 0) c ≡ digit (get_or t (base Full k + 8 + i) 0) c
      at c h =
          let q : (8 * i + c) / 8 ≡ i = omega arith in
          let r : (8 * i + c) % 8 ≡ c = omega arith in
          let z = e (8 * i + c) (omega arith) in
          rw (q, r) at z

  -- so their bytes in it are the same
  cell-byte : (k : ℕ) → Alike k → (o : ℕ) → o < 40 → get_or s (base Full k + o) 0 ≡ get_or t (base Full k + o) 0
  cell-byte k a zero l = let e : base Full k + 0 ≡ base Full k = omega arith in rw e (word_low (base Full k) a.now)
  cell-byte k a (suc zero) l = word-high (base Full k) a.now
  cell-byte k a (suc (suc zero)) l = word_low (base Full k + 2) a.ago
  cell-byte k a (suc (suc (suc zero))) l = let e : base Full k + 3 ≡ base Full k + 2 + 1 = omega arith in rw e (word-high (base Full k + 2) a.ago)
  cell-byte k a (suc (suc (suc (suc zero)))) l =
      same_bit _ _ (held_low s k _ a.clean (omega arith) (omega arith)) (held_low t k _ a.clean' (omega arith) (omega arith)) (held-a k a.held)
  cell-byte k a (suc (suc (suc (suc (suc zero))))) l =
      same_bit _ _ (held_low s k _ a.clean (omega arith) (omega arith)) (held_low t k _ a.clean' (omega arith) (omega arith)) (held-b k a.held)
  cell-byte k a (suc (suc (suc (suc (suc (suc o)))))) l = go (dec_lt o 2) (ℕ_discrete (cell_at net.cells k).kind 34)
    where
      i : ℕ
      i = base Full k + suc (suc (suc (suc (suc (suc o)))))

      spare : ((cell_at net.cells k).kind ≡ 34 → i < base Full k + 8) → ((cell_at net.cells k).kind ≡ 32 → i ≡ remaining_byte Full k → ⊥)
          → get_or s i 0 ≡ get_or t i 0
      spare d r = a.clean.rest i (omega arith) (omega arith) d r ∙ sym (a.clean'.rest i (omega arith) (omega arith) d r)

      start-byte : remaining_byte Full k ≡ base Full k + 8
      start-byte = unfold remaining_byte in refl

      -- the start's byte
      start : ((cell_at net.cells k).kind ≡ 34 → ⊥) → Dec (i ≡ base Full k + 8) → Dec ((cell_at net.cells k).kind ≡ 32) → get_or s i 0 ≡ get_or t i 0
      start n (yes q) (yes e) = let z = a.remaining e in rw (q, sym start-byte) z
      start n (yes q) (no e) = spare (λ z. absurd (n z)) (λ z. absurd (e z))
      start n (no q) e = spare (λ z. absurd (n z)) (λ z y. q (y ∙ start-byte))

      go : Dec (o < 2) → Dec ((cell_at net.cells k).kind ≡ 34) → get_or s i 0 ≡ get_or t i 0
      go (yes h) d = spare (λ q. omega arith) (λ q y. omega (arith, start-byte))
      go (no h) (yes e) =
          let q : i ≡ base Full k + 8 + (o - 2) = omega (arith, h) in
          rw q (line-byte k (o - 2) (omega (arith, h)) (a.line e))
      go (no h) (no e) = start e (ℕ_discrete i (base Full k + 8)) (ℕ_discrete (cell_at net.cells k).kind 32)

  -- Two full states that show the same are the same.
  pub view-unique : length s ≡ length t → ((j : ℕ) → j < 8 → get_or s j 0 ≡ get_or t j 0) → ((k : ℕ) → k < length net.cells → Alike k)
      → ((a i : ℕ) → a < 4 → i < 64 → element_now Full net s (64 * a + i) ≡ element_now Full net t (64 * a + i))
      → ((j : ℕ) → state_size Full net ≤ j → get_or s j 0 ≡ get_or t j 0) → s ≡ t
  view-unique size head cells words tail = same_lists s t size at
    where
      word_byte : (j : ℕ) → base Full (length net.cells) ≤ j → j < state_size Full net → get_or s j 0 ≡ get_or t j 0
      word_byte j h g = go (ℕ_discrete (m % 2) 0)
        where
          m : ℕ
          m = j - base Full (length net.cells)

          n : ℕ
          n = m / 2

          same : get16 s (base Full (length net.cells) + 2 * n) ≡ get16 t (base Full (length net.cells) + 2 * n)
          same =
              let q : 64 * (n / 64) + n % 64 ≡ n = omega arith in
              let z = words (n / 64) (n % 64) (omega arith) (omega arith) in
              rw q at z

          go : Dec (m % 2 ≡ 0) → get_or s j 0 ≡ get_or t j 0
          go (yes e) = let q : j ≡ base Full (length net.cells) + 2 * n = omega arith in rw q (word_low _ same)
          go (no e) = let q : j ≡ base Full (length net.cells) + 2 * n + 1 = omega (arith, e) in rw q (word-high _ same)

      at : (j : ℕ) → get_or s j 0 ≡ get_or t j 0
      at j = go (dec_lt j 8) (dec_lt j (base Full (length net.cells))) (dec_lt j (state_size Full net))
        where
          go : Dec (j < 8) → Dec (j < base Full (length net.cells)) → Dec (j < state_size Full net) → get_or s j 0 ≡ get_or t j 0
          go (yes a) b c = head j a
          go (no a) (yes b) c =
              let q : j ≡ base Full ((j - 8) / 40) + (j - 8) % 40 = omega (arith, a) in
              let z = cell-byte ((j - 8) / 40) (cells ((j - 8) / 40) (omega (arith, a))) ((j - 8) % 40) (omega arith) in
              rw (sym q) at z
          go (no a) (no b) (yes c) = word_byte j (omega (arith, b)) c
          go (no a) (no b) (no c) = tail j (omega (arith, c))
