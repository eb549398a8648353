-- Events that a cell's fanout makes. An entry of a fanout is a delay, d * 65536 + its number, which will put out d instants later; or a cell that is to be
-- evaluated in this instant, side * 2^24 + its number, with a side of a merge. Those cells are a set behind the wheel's rows.
-- Assumes nothing.
use Rattle.std.specs.Prelude.{List, ◌≡◌, refl, ℕ, zero, suc, ◌+◌, ◌-◌, ◌*◌, ◌/◌, ◌%◌, ◌<◌, ◌≤◌, eqb, length, get_or, set}
use Rattle.std.proofs.Math.Path.{ap}
use Rattle.std.proofs.Common.{arith, eq-eqb, ne_eqb}
use Rattle.std.proofs.Math.Decide.{ℕ_discrete}
use Rattle.std.specs.Int.Bits.{bit_or}
use Rattle.model.specs.Word.{pick}
use Rattle.engine_laws.specs.Sets.{inserted, put_other}
use Rattle.engine_laws.specs.Wheel.{opened, puts_in, enter-here, enter-other}

abbrev pub cell_in : ℕ → ℕ
cell_in f = f % 65536

abbrev pub delay_in : ℕ → ℕ
delay_in f = f / 65536 % 256

abbrev pub side_in : ℕ → ℕ
side_in f = f / 16777216

-- an entry that is a delay has a place in a row of so many words
abbrev pub InRow : ℕ → ℕ → Type 0
InRow width f = (delay_in f ≡ 0 → ⊥) → cell_in f < 64 * width

-- the lists that scheduling changes
pub record Events : Type 0 where
  pub wheel : List ℕ
  pub tag : List ℕ
  pub occupied : List ℕ
  pub held : List ℕ

abbrev pub events : List ℕ → List ℕ → List ℕ → List ℕ → Events
events wheel tag occupied held = record { wheel = wheel; tag = tag; occupied = occupied; held = held }

-- how long the lists are: 512 rows of 4 words and 16 more words for the cells to be evaluated, a tag for each row, a bit for each of 256 instants, and what
-- each cell holds
abbrev pub Room : List ℕ → List ℕ → List ℕ → List ℕ → Type 0
Room wheel tag occupied held =
    (2064 ≤ length wheel) × (length wheel ≤ 1000000) × (512 ≤ length tag) × (4 ≤ length occupied) × (1024 ≤ length held)

-- entry f is scheduled at instant u
unfoldable pub scheduled : ℕ → ℕ → ℕ → Events → Events
scheduled width u f h =
    pick (eqb (delay_in f) 0)
    (events (inserted h.wheel (131072 + cell_in f)) h.tag h.occupied (set h.held (cell_in f) (bit_or (get_or h.held (cell_in f) 0) (side_in f))))
    (events (inserted (opened h.wheel h.tag width (u + delay_in f)) (256 * ((u + delay_in f) % 512) + cell_in f)) (set h.tag ((u + delay_in f) % 512) (u + delay_in f))
    (inserted h.occupied ((u + delay_in f) % 256)) h.held)

pub scheduled-cell : (width u f : ℕ) (h : Events) → delay_in f ≡ 0
    → scheduled width u f h ≡ events (inserted h.wheel (131072 + cell_in f)) h.tag h.occupied (set h.held (cell_in f) (bit_or (get_or h.held (cell_in f) 0) (side_in f)))
unfolding scheduled
scheduled-cell width u f h e = rw (eq-eqb (delay_in f) 0 e) refl

pub scheduled-delay : (width u f : ℕ) (h : Events) → (delay_in f ≡ 0 → ⊥)
    → scheduled width u f h
    ≡ events (inserted (opened h.wheel h.tag width (u + delay_in f)) (256 * ((u + delay_in f) % 512) + cell_in f)) (set h.tag ((u + delay_in f) % 512) (u + delay_in f))
    (inserted h.occupied ((u + delay_in f) % 256)) h.held
unfolding scheduled
scheduled-delay width u f h e = rw (ne_eqb (delay_in f) 0 e) refl

pub events-are : (h : Events) (wheel tag occupied held : List ℕ) → wheel ≡ h.wheel → tag ≡ h.tag → occupied ≡ h.occupied → held ≡ h.held
    → events wheel tag occupied held ≡ h
events-are h wheel tag occupied held a b c d = rw (a, b, c, d) refl

-- so are n entries from e on
unfoldable pub all_scheduled : List ℕ → ℕ → ℕ → ℕ → ℕ → Events → Events
all_scheduled entries width u e zero h = h
all_scheduled entries width u e (suc n) h = scheduled width u (get_or entries (e + n) 0) (all_scheduled entries width u e n h)

pub scheduled-more : (entries : List ℕ) (width u e n : ℕ) (h : Events)
    → all_scheduled entries width u e (n + 1) h ≡ scheduled width u (get_or entries (e + n) 0) (all_scheduled entries width u e n h)
unfolding all_scheduled
scheduled-more entries width u e n h = let q : n + 1 ≡ suc n = omega arith in rw q refl

-- the fanout of cell c stands among the entries, from one number to the next, and entries name cells
pub record Fanout (from entries : List ℕ) (c : ℕ) : Type 0 where
  pub here : c + 1 < length from
  pub rising : get_or from c 0 ≤ get_or from (c + 1) 0
  pub room : get_or from (c + 1) 0 ≤ length entries
  pub some : length entries ≤ 4096
  pub cells : (e : ℕ) → e < length entries → cell_in (get_or entries e 0) < 1024
  pub delays : (e : ℕ) → e < length entries → InRow 4 (get_or entries e 0)

-- the whole fanout of cell c is scheduled
abbrev pub propagated : List ℕ → List ℕ → ℕ → ℕ → ℕ → Events → Events
propagated from entries width u c h = all_scheduled entries width u (get_or from c 0) (get_or from (c + 1) 0 - get_or from c 0) h

-- What is scheduled will be put out ----------------------------------------------------------------------------------------------------------------------

abbrev pub Roomy : Events → Type 0
Roomy h = (2064 ≤ length h.wheel) × (512 ≤ length h.tag)

-- a delay's entry: it puts out at u + d
pub scheduled-enters : (width u f : ℕ) (h : Events) → Roomy h → width ≤ 4 → (delay_in f ≡ 0 → ⊥) → cell_in f < 64 * width
    → puts_in (scheduled width u f h).wheel (scheduled width u f h).tag (u + delay_in f) (cell_in f) ≡ 1
scheduled-enters width u f h wide few n l =
    rw (scheduled-delay width u f h n) (enter-here h.wheel h.tag width (u + delay_in f) (omega (arith, wide.0)) wide.1 few (cell_in f) l)

-- and what was put out by another delay, or at another instant near u, is so still
pub scheduled-keeps : (width u f : ℕ) (h : Events) → Roomy h → width ≤ 4 → cell_in f < 1024 → InRow width f → (x y : ℕ) → y < 64 * width → u < x + 256
    → x < u + 256
    → (x ≡ u + delay_in f → y ≡ cell_in f → delay_in f ≡ 0)
    → puts_in (scheduled width u f h).wheel (scheduled width u f h).tag x y ≡ puts_in h.wheel h.tag x y
scheduled-keeps width u f h wide few small place x y g near far other = go (ℕ_discrete (delay_in f) 0)
  where
    look-keeps : delay_in f ≡ 0 → puts_in (inserted h.wheel (131072 + cell_in f)) h.tag x y ≡ puts_in h.wheel h.tag x y
    look-keeps e =
        unfold puts_in in
        ap (λ (z : ℕ). pick (eqb (get_or h.tag (x % 512) 0) x) z 0)
        (put_other h.wheel (131072 + cell_in f) (256 * (x % 512) + y) (omega (arith, wide.0, small)) (λ q. omega (arith, few)))

    go : Dec (delay_in f ≡ 0) → puts_in (scheduled width u f h).wheel (scheduled width u f h).tag x y ≡ puts_in h.wheel h.tag x y
    go (yes e) = rw (scheduled-cell width u f h e) (look-keeps e)
    go (no n) =
        rw (scheduled-delay width u f h n)
        (enter-other h.wheel h.tag width (u + delay_in f) (omega (arith, wide.0)) wide.1 few (cell_in f) x y (place n) g (λ q. omega arith) (λ q r. n (other q r)))
