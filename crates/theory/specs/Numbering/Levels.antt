-- Small laws of levels, words and lists of wires.
use Rattle.std.specs.Prelude.{◌≡◌, refl, Bool, true, false, ◌||◌, List, [], ◌∷◌, ◌++◌, ℕ, ◌+◌, ◌*◌, ◌/◌, ◌%◌, ◌<◌, ◌-◌, max, eqb, leb}
use Rattle.std.proofs.Common.{sym, ap, ap₂, ◌∙◌, arith}
use Rattle.std.proofs.Math.Nat.{sub-zero}
use Rattle.std.proofs.Math.Arith.{bin_ind, digits_div, digits_mod}
use Rattle.std.specs.Int.Bits.{bit_or, or_step}
use Rattle.std.proofs.Math.Dec.{leb-zero}
use Rattle.model.specs.Word.{pick}
use Rattle.model.specs.Circuit.{Sig, delayed}
use Rattle.theory.specs.Control.Wiring.{Gives, Joined}
use Rattle.model.specs.Word.{operate}
use Rattle.model.specs.Numbering.{Source, wires_of, clock_sources, data_sources, address_sources, call_sources, exit_wires}
use Rattle.model.specs.Program.{Code}
use Rattle.model.specs.Circuit.{Values, level}
use Rattle.model.specs.Word.{bit}

pub level-of : {w : ℕ} (b : Bool) → w ≡ bit b → eqb w 1 ≡ b
unfolding bit
level-of true e = rw e
level-of false e = rw e

pub delayed-cong : (d : ℕ) {f g : Sig} → ((t : ℕ) → f t ≡ g t) → (t : ℕ) → delayed d f t ≡ delayed d g t
unfolding delayed
delayed-cong d h t = ap (λ (b : Bool). pick (leb d t) b false) (h (t - d))

pub delayed-zero : (f : Sig) (t : ℕ) → delayed 0 f t ≡ f t
unfolding delayed
delayed-zero f t = rw (leb-zero, sub-zero)

pub op-or : (x y : ℕ) → operate 7 x y ≡ bit_or x y
unfolding operate
op-or x y = refl

pub ||-assoc : (a b c : Bool) → (a || b) || c ≡ a || (b || c)
||-assoc true b c = refl
||-assoc false b c = refl

pub ||-false : (a : Bool) → a || false ≡ a
||-false true = refl
||-false false = refl

or-low : (a b : ℕ) → max (a % 2) (b % 2) < 2
or-low a b = omega arith

or-half : (a b : ℕ) → bit_or a b / 2 ≡ bit_or (a / 2) (b / 2)
or-half a b = rw (or_step a b) (digits_div (bit_or (a / 2) (b / 2)) (or-low a b))

or-odd : (a b : ℕ) → bit_or a b % 2 ≡ max (a % 2) (b % 2)
or-odd a b = rw (or_step a b) (digits_mod (bit_or (a / 2) (b / 2)) (or-low a b))

max_assoc : (a b c : ℕ) → max (max a b) c ≡ max a (max b c)
max_assoc a b c = omega arith

pub or_assoc : (a b c : ℕ) → bit_or (bit_or a b) c ≡ bit_or a (bit_or b c)
or_assoc =
    bin_ind (λ (n : ℕ). (b c : ℕ) → bit_or (bit_or n b) c ≡ bit_or n (bit_or b c)) (λ b c. refl)
    (λ n ih b c.
    or_step (bit_or n b) c
    ∙ ap₂ (λ (x y : ℕ). bit_or x (c / 2) * 2 + max y (c % 2)) (or-half n b) (or-odd n b)
    ∙ ap₂ (λ (x y : ℕ). x * 2 + y) (ih (b / 2) (c / 2)) (max_assoc (n % 2) (b % 2) (c % 2))
    ∙ ap₂ (λ (x y : ℕ). bit_or (n / 2) x * 2 + max (n % 2) y) (sym (or-half b c)) (sym (or-odd b c))
    ∙ sym (or_step n (bit_or b c)))

-- what the wires of a list come to, joined
unfoldable pub any_high : Values → List ℕ → Sig
any_high W [] t = false
any_high W (k ∷ ks) t = level W k t || any_high W ks t

unfoldable pub all_or : Values → List ℕ → ℕ → ℕ
all_or W [] t = 0
all_or W (k ∷ ks) t = bit_or (W k t) (all_or W ks t)

-- what a list of assignments gives to each variable
abbrev pub clk_of : Values → List Source → ℕ → Sig
clk_of W ws y t = any_high W (wires_of y ws) t

abbrev pub dat_of : Values → List Source → ℕ → ℕ → ℕ
dat_of W ws y t = all_or W (wires_of y ws) t

-- with clocks from us, data from vs and addresses from ws, calls from cs, and exits that start at xs
abbrev pub gives_of : Values → List Source → List Source → List Source → List Source → List ℕ → Gives
gives_of W us vs ws cs xs = record { clk = clk_of W us; dat = dat_of W vs; adr = dat_of W ws; calls = clk_of W cs; out = any_high W xs }

-- what a statement gives whose delay cells stand at d and whose walk cells at c
abbrev pub gives_at : Values → Code → ℕ → ℕ → ℕ → Gives
gives_at W P s d c = gives_of W (clock_sources P d) (data_sources P c) (address_sources P c) (call_sources P d) (exit_wires P s d c)

pub wires-append : (y : ℕ) (us vs : List Source) → wires_of y (us ++ vs) ≡ wires_of y us ++ wires_of y vs
unfolding wires_of
wires-append y [] vs = refl
wires-append y (u ∷ us) vs = go (eqb u.0 y) (wires-append y us vs)
  where
    go : (q : Bool) → wires_of y (us ++ vs) ≡ wires_of y us ++ wires_of y vs
        → pick q (u.1 ∷ wires_of y (us ++ vs)) (wires_of y (us ++ vs)) ≡ pick q (u.1 ∷ wires_of y us) (wires_of y us) ++ wires_of y vs
    go true e = ap (λ (l : List ℕ). u.1 ∷ l) e
    go false e = e

pub any_append : (W : Values) (ks ls : List ℕ) (t : ℕ) → any_high W (ks ++ ls) t ≡ any_high W ks t || any_high W ls t
unfolding any_high
any_append W [] ls t = refl
any_append W (k ∷ ks) ls t =
    ap (λ (b : Bool). level W k t || b) (any_append W ks ls t) ∙ sym (||-assoc (level W k t) (any_high W ks t) (any_high W ls t))

pub or-append : (W : Values) (ks ls : List ℕ) (t : ℕ) → all_or W (ks ++ ls) t ≡ bit_or (all_or W ks t) (all_or W ls t)
unfolding all_or
or-append W [] ls t = refl
or-append W (k ∷ ks) ls t =
    ap (λ (b : ℕ). bit_or (W k t) b) (or-append W ks ls t) ∙ sym (or_assoc (W k t) (all_or W ks t) (all_or W ls t))

pub joined : (W : Values) (us vs us' vs' us'' vs'' cs ds : List Source) (xs ys : List ℕ)
    → Joined (gives_of W us us' us'' cs xs) (gives_of W vs vs' vs'' ds ys) (gives_of W (us ++ vs) (us' ++ vs') (us'' ++ vs'') (cs ++ ds) (xs ++ ys))
joined W us vs us' vs' us'' vs'' cs ds xs ys =
    record {
      clocks = λ y t. rw wires-append (any_append W (wires_of y us) (wires_of y vs) t);
      words = λ y t. rw wires-append (or-append W (wires_of y us') (wires_of y vs') t);
      addresses = λ y t. rw wires-append (or-append W (wires_of y us'') (wires_of y vs'') t);
      called = λ q t. rw wires-append (any_append W (wires_of q cs) (wires_of q ds) t);
      out = any_append W xs ys;
    }
