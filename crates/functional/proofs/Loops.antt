-- What a while and a repeat ask of their parts, and what they leave. Assumes nothing.
use mathlib.Core.Path.{◌≡◌, refl, ◌∙◌, ap, ap₂}
use mathlib.Core.Bool.{Bool}
use mathlib.Core.List.{List, [], ◌∷◌, ◌++◌, append_assoc}
use Prim.Native.Nat.{ℕ, ◌+◌, ◌*◌, ◌≤◌}
use native.Mathlib.Omega.{arith}
use lib.ListN.{get_or, length, length-append}
use Rattle.model.specs.declared.Cell.{Cell}
use Rattle.model.specs.Program.{Expr, Code, Stmt, while, repeat, writes}
use Rattle.model.specs.Procedures.{inline}
use Rattle.model.specs.Circuit.{cell}
use Rattle.model.specs.Numbering.{Wires, expr_count, expr_wire, expr_cells}
use Rattle.model.specs.Functional.{each, rank, many, placed, joins_at, choices, count, finish_wire, outs, walk, while_true, while_body, while_load, repeat_body, repeat_delay, repeat_true, repeat_load}
use Rattle.laws.specs.Numbering.Lengths.{e-len}
use Rattle.laws.specs.Functional.Count.{each-len, w-len}
use Rattle.compiler.specs.Writes.{write}
use Rattle.compiler.specs.Walk.{SwitchReady, Switched}
use Rattle.compiler.proofs.Writes.{write-append, write-before}
use Rattle.functional.specs.declared.walk.Place.{Place}
use Rattle.functional.specs.declared.sets.Wires as declared
use Rattle.functional.specs.Sets.{has, wired, Agrees, Tells}
use Rattle.functional.specs.Walk.{plainly, place, Ready, Done, Round}
use Rattle.functional.proofs.Bits.{each_same, choices-same, many-set, rank-set, each_set, placed-set, choices-set}

-- Latches and loads --------------------------------------------------------------------------------------------------------------------------

pub round-done : (set n : ℕ) (p : Place) (again : ℕ) (us : declared.Wires) (m : ℕ) (before la lb sa ra : List ℕ) {m₁ m₂ m₃ end : List ℕ} {r : ℕ}
    → n ≡ many (has set)
    → Agrees la (λ x. m)
    → Agrees lb (placed (has set) (m + 1 + n + n) (wired p.words.of))
    → Agrees sa (λ x. p.wire)
    → Agrees ra (λ x. again)
    → m₁ ≡ write p.cell (each (has set) (λ y. cell 45 0 (get_or la y 0) (get_or lb y 0))) before
    → m₂ ≡ write (p.cell + n) (cell 34 1 m 0 ∷ []) m₁
    → m₃ ≡ write m (cell 35 0 p.wire again ∷ []) m₂
    → end
    ≡ write (m + 1)
    (choices (has set) (λ y. cell 41 0 (get_or sa y 0) (get_or p.words.of y 0)) (λ y. cell 41 0 (get_or ra y 0) (get_or us.of y 0)) (m + 1)) m₃
    → r ≡ m + 1 + many (has set) + many (has set) + many (has set)
    → Round set p again us m before end r
round-done set n p again us m before la lb sa ra e a₁ a₂ a₃ a₄ w₁ w₂ w₃ w₄ q =
    let b : ℕ → Bool = has set in
    let c = p.cell in
    let L₀ : ℕ → Cell = λ y. cell 45 0 (get_or la y 0) (get_or lb y 0) in
    let L : ℕ → Cell = λ y. cell 45 0 m (joins_at b (m + 1) + rank b y) in
    let f₀ : ℕ → Cell = λ y. cell 41 0 (get_or sa y 0) (get_or p.words.of y 0) in
    let f : ℕ → Cell = λ y. cell 41 0 p.wire (wired p.words.of y) in
    let g₀ : ℕ → Cell = λ y. cell 41 0 (get_or ra y 0) (get_or us.of y 0) in
    let g : ℕ → Cell = λ y. cell 41 0 again (wired us.of y) in
    let same : each b L₀ ≡ each b L =
    each_same b L₀ L (λ y l k. let z : get_or lb y 0 ≡ m + 1 + n + n + rank b y = rw k at (a₂ y l) in rw (a₁ y l, z, e) refl) in
    let loads : choices b f₀ g₀ (m + 1) ≡ choices b f g (m + 1) =
    choices-same b f₀ f g₀ g (m + 1) (λ y l k. rw (a₃ y l) refl) (λ y l k. rw (a₄ y l) refl) in
    let s = write c (each b L ++ (cell 34 1 m 0 ∷ [])) before in
    let two : _ ≡ s =
    w₂
    ∙ ap (write (c + n) (cell 34 1 m 0 ∷ [])) w₁
    ∙ write-append c (c + n) (each b L₀) (cell 34 1 m 0 ∷ []) before (omega (arith, e, each-len b L₀))
    ∙ ap (λ (x : List Cell). write c (x ++ (cell 34 1 m 0 ∷ [])) before) same in
    record {
      cells =
          w₄
          ∙ ap₂ (λ (x : List Cell) (y : List ℕ). write (m + 1) x y) loads (w₃ ∙ ap (write m (cell 35 0 p.wire again ∷ [])) two)
          ∙ write-append m (m + 1) (cell 35 0 p.wire again ∷ []) (choices b f g (m + 1)) s refl;
      cell = q;
    }

-- a round, told by what the body writes and by the words' own wires
pub round-told : (set : ℕ) (P : Stmt) (p : Place) (again : ℕ) (vs : declared.Wires) (m : ℕ) (us ws : Wires) (before : List ℕ) {end : List ℕ} {r : ℕ}
    → Tells set (writes P)
    → Agrees p.words.of us
    → Agrees vs.of ws
    → Round set p again vs m before end r
    → end
    ≡ write m (cell 35 0 p.wire again ∷ choices (writes P) (λ y. cell 41 0 p.wire (us y)) (λ y. cell 41 0 again (ws y)) (m + 1))
    (write p.cell (each (writes P) (λ y. cell 45 0 m (joins_at (writes P) (m + 1) + rank (writes P) y)) ++ (cell 34 1 m 0 ∷ [])) before)
round-told set P p again vs m us ws before t a₁ a₂ o =
    let b : ℕ → Bool = has set in
    let b' : ℕ → Bool = writes P in
    let L₀ : ℕ → Cell = λ y. cell 45 0 m (joins_at b (m + 1) + rank b y) in
    let L : ℕ → Cell = λ y. cell 45 0 m (joins_at b' (m + 1) + rank b' y) in
    let f₀ : ℕ → Cell = λ y. cell 41 0 p.wire (wired p.words.of y) in
    let f : ℕ → Cell = λ y. cell 41 0 p.wire (us y) in
    let g₀ : ℕ → Cell = λ y. cell 41 0 again (wired vs.of y) in
    let g : ℕ → Cell = λ y. cell 41 0 again (ws y) in
    let latches : each b L₀ ≡ each b' L = each_same b L₀ L (λ y l k. rw (rank-set b b' t y l, many-set b b' t) refl) ∙ each_set b b' t L in
    let loads : choices b f₀ g₀ (m + 1) ≡ choices b' f g (m + 1) =
    choices-same b f₀ f g₀ g (m + 1) (λ y l k. rw (a₁ y l) refl) (λ y l k. rw (a₂ y l) refl) ∙ choices-set b b' t f g (m + 1) in
    o.cells
    ∙ ap₂ (λ (x y : List Cell). write m (cell 35 0 p.wire again ∷ x) (write p.cell (y ++ (cell 34 1 m 0 ∷ [])) before)) loads latches

-- the latches, by what the body writes
latched : (set c : ℕ) (P : Stmt) (ws latches : declared.Wires) (us : Wires) → Tells set (writes P) → Agrees ws.of us
    → Agrees latches.of (placed (has set) c (wired ws.of)) → Agrees latches.of (placed (writes P) c us)
latched set c P ws latches us t same a y l = a y l ∙ rw (same y l) (placed-set (has set) (writes P) t c us y l)

pub many-told : (set : ℕ) (P : Stmt) {k : ℕ} → Tells set (writes P) → k ≡ many (has set) → k ≡ many (writes P)
many-told set P t e = e ∙ many-set (has set) (writes P) t

-- A while --------------------------------------------------------------------------------------------------------------------------------------

-- its cells, from the first to the last
pub while-cells : (δ : ℕ) (E : Expr) (P : Stmt) (s : ℕ) (us : Wires) (c : ℕ) (before : List ℕ) {m₁ m₂ m₃ end : List ℕ}
    → let b = writes P in
    let N = many (writes P) in
    let latches : Wires = placed (writes P) c us in
    let k = c + many (writes P) + 1 + 1 in
    let w = expr_wire latches E k in
    let t = while_true E P c in
    let m = while_load E P c in
    let f = finish_wire P t (while_body E P c) in
    m₁ ≡ write (c + N + 1) (cell 34 δ (c + N) 0 ∷ []) before
    → m₂ ≡ write k (expr_cells latches E k ++ (cell 36 0 (c + N + 1) w ∷ cell 37 0 (c + N + 1) w ∷ [])) m₁
    → m₃ ≡ write (while_body E P c) (walk P t latches (while_body E P c)) m₂
    → end
    ≡ write m (cell 35 0 s f ∷ choices b (λ y. cell 41 0 s (us y)) (λ y. cell 41 0 f (outs P latches (while_body E P c) y)) (m + 1))
    (write c (each b (λ y. cell 45 0 m (joins_at b (m + 1) + rank b y)) ++ (cell 34 1 m 0 ∷ [])) m₃)
    → end ≡ write c (walk (while δ E P) s us c) before
unfolding walk
while-cells δ E P s us c before w₁ w₂ w₃ w₄ =
    let b : ℕ → Bool = writes P in
    let N = many (writes P) in
    let latches : Wires = placed (writes P) c us in
    let k = c + N + 1 + 1 in
    let w = expr_wire latches E k in
    let t = while_true E P c in
    let cB = while_body E P c in
    let m = while_load E P c in
    let f = finish_wire P t cB in
    let d = cell 34 δ (c + N) 0 in
    let S = expr_cells latches E k ++ (cell 36 0 (c + N + 1) w ∷ cell 37 0 (c + N + 1) w ∷ []) in
    let W = walk P t latches cB in
    let L = each b (λ y. cell 45 0 m (joins_at b (m + 1) + rank b y)) ++ (cell 34 1 m 0 ∷ []) in
    let H = cell 35 0 s f ∷ choices b (λ y. cell 41 0 s (us y)) (λ y. cell 41 0 f (outs P latches cB y)) (m + 1) in
    let lS : length S ≡ expr_count E + 2 = simp (length-append, e-len) in
    let lL : length L ≡ N + 1 = simp (length-append, each-len) in
    let lW : length W ≡ count P = w-len P t latches cB in
    let M = (d ∷ S) ++ W in
    let lM : length M ≡ expr_count E + 3 + count P = length-append (d ∷ S) W ∙ omega (arith, lS, lW) in
    let A = L ++ M in
    let lA : length A ≡ N + 1 + (expr_count E + 3 + count P) = length-append L M ∙ omega (arith, lL, lM) in
    w₄
    ∙ ap (λ (x : List ℕ). write m H (write c L x))
    (w₃
    ∙ ap (write cB W) (w₂ ∙ ap (write k S) w₁ ∙ write-append (c + N + 1) k (d ∷ []) S before refl)
    ∙ write-append (c + N + 1) cB (d ∷ S) W before (omega (arith, lS)))
    ∙ ap (write m H) (write-before c (c + N + 1) L M before (omega (arith, lL)))
    ∙ write-append c m A H before (omega (arith, lA))
    ∙ ap (λ (x : List Cell). write c x before) (simp append_assoc)

-- what it asks of its parts, where k variables are written
module _ {δ c n : ℕ} {E : Expr} {P : Code} (r : Ready (while δ E P) c n) {k : ℕ} (e : k ≡ many (writes (plainly P))) where
  pub while-room : 6 * (c + k + 2 + expr_count E + 2 + count (plainly P) + 1 + 3 * k) ≤ n
  unfolding count inline
  while-room = omega (arith, r.room, e)

  pub while-switches : SwitchReady E (c + k + 2) n
  while-switches = record { expr = record { formed = r.formed.1; room = omega (arith, while-room); small = r.small }; room = omega (arith, while-room) }

  pub while-body : {t : ℕ} → t ≡ c + k + 2 + expr_count E → Ready P (t + 1 + 1) n
  while-body q = record { formed = r.formed.2; basic = r.basic.1; room = omega (arith, while-room, q); small = r.small }

pub while-done : (δ : ℕ) (E : Expr) (P : Code) (at : Place) (us : Wires) (set n : ℕ) (latches : declared.Wires) {before m₁ m₂ m₃ end : List ℕ} {e : ℕ} {p : Place} {r : ℕ}
    → Agrees at.words.of us
    → Tells set (writes (plainly P))
    → n ≡ many (has set)
    → Agrees latches.of (placed (has set) at.cell (wired at.words.of))
    → m₁ ≡ write (at.cell + n + 1) (cell 34 δ (at.cell + n) 0 ∷ []) before
    → ((vs : Wires) → Agrees latches.of vs → Switched vs E (at.cell + n + 2) (at.cell + n + 1) m₁ m₂ e)
    → ((vs : Wires) → Agrees latches.of vs → Done (plainly P) (place e (e + 1 + 1) latches) vs m₂ m₃ p)
    → Round set at p.wire p.words p.cell m₃ end r
    → Done (plainly (while δ E P)) at us before end (place (e + 1) r latches)
unfolding inline finish_wire count outs
while-done δ E P at us set n latches {before} {m₁} {m₂} {m₃} {end} {e} {p} {r} same t told a w₁ switched body round =
    let c = at.cell in
    let P' = plainly P in
    let ls : Wires = placed (writes P') c us in
    let la : Agrees latches.of ls = latched set c P' at.words latches us t same a in
    let N = many (writes P') in
    let eN : n ≡ N = many-told set P' t told in
    let k : c + n + 2 ≡ c + N + 1 + 1 = omega (arith, eN) in
    let u : Switched ls E (c + N + 1 + 1) (c + N + 1) m₁ m₂ e = rw (k, eN) at (switched ls la) in
    let v : Done P' (place (while_true E P' c) (while_body E P' c) latches) ls m₂ m₃ p = rw u.switch at (body ls la) in
    let o = round-told set P' at p.wire p.words p.cell us (outs P' ls (while_body E P' c)) m₃ t same v.words round in
    record {
      cells = while-cells δ E P' at.wire us c before (rw eN at w₁) u.cells v.cells (rw (v.wire, v.cell) at o);
      wire = rw u.switch refl;
      cell = omega (arith, round.cell, v.cell, eN, told);
      words = la;
    }

-- A repeat ------------------------------------------------------------------------------------------------------------------------------------

pub repeat-cells : (δ : ℕ) (E : Expr) (P : Stmt) (s : ℕ) (us : Wires) (c : ℕ) (before : List ℕ) {m₁ m₂ m₃ end : List ℕ}
    → let b = writes P in
    let N = many (writes P) in
    let latches : Wires = placed (writes P) c us in
    let cP = repeat_body E P c in
    let q = repeat_delay E P c in
    let vs : Wires = outs P latches cP in
    let w = expr_wire vs E (q + 1) in
    let t = repeat_true E P c in
    let m = repeat_load E P c in
    m₁ ≡ write cP (walk P (c + N) latches cP) before
    → m₂ ≡ write q (cell 34 δ (finish_wire P (c + N) cP) 0 ∷ []) m₁
    → m₃ ≡ write (q + 1) (expr_cells vs E (q + 1) ++ (cell 36 0 q w ∷ cell 37 0 q w ∷ [])) m₂
    → end
    ≡ write m (cell 35 0 s (t + 1) ∷ choices b (λ y. cell 41 0 s (us y)) (λ y. cell 41 0 (t + 1) (vs y)) (m + 1))
    (write c (each b (λ y. cell 45 0 m (joins_at b (m + 1) + rank b y)) ++ (cell 34 1 m 0 ∷ [])) m₃)
    → end ≡ write c (walk (repeat δ E P) s us c) before
unfolding walk
repeat-cells δ E P s us c before w₁ w₂ w₃ w₄ =
    let b : ℕ → Bool = writes P in
    let N = many (writes P) in
    let latches : Wires = placed (writes P) c us in
    let cP = repeat_body E P c in
    let q = repeat_delay E P c in
    let vs : Wires = outs P latches cP in
    let w = expr_wire vs E (q + 1) in
    let t = repeat_true E P c in
    let m = repeat_load E P c in
    let d = cell 34 δ (finish_wire P (c + N) cP) 0 in
    let S = expr_cells vs E (q + 1) ++ (cell 36 0 q w ∷ cell 37 0 q w ∷ []) in
    let W = walk P (c + N) latches cP in
    let L = each b (λ y. cell 45 0 m (joins_at b (m + 1) + rank b y)) ++ (cell 34 1 m 0 ∷ []) in
    let H = cell 35 0 s (t + 1) ∷ choices b (λ y. cell 41 0 s (us y)) (λ y. cell 41 0 (t + 1) (vs y)) (m + 1) in
    let lS : length S ≡ expr_count E + 2 = simp (length-append, e-len) in
    let lL : length L ≡ N + 1 = simp (length-append, each-len) in
    let lW : length W ≡ count P = w-len P (c + N) latches cP in
    let M = W ++ (d ∷ S) in
    let lM : length M ≡ count P + (expr_count E + 3) = length-append W (d ∷ S) ∙ omega (arith, lS, lW) in
    let A = L ++ M in
    let lA : length A ≡ N + 1 + (count P + (expr_count E + 3)) = length-append L M ∙ omega (arith, lL, lM) in
    w₄
    ∙ ap (λ (x : List ℕ). write m H (write c L x))
    (w₃
    ∙ ap (write (q + 1) S) w₂
    ∙ write-append q (q + 1) (d ∷ []) S _ refl
    ∙ ap (write q (d ∷ S)) w₁
    ∙ write-append cP q W (d ∷ S) before (omega (arith, lW)))
    ∙ ap (write m H) (write-before c cP L M before (omega (arith, lL)))
    ∙ write-append c m A H before (omega (arith, lA))
    ∙ ap (λ (x : List Cell). write c x before) (simp append_assoc)

module _ {δ c n : ℕ} {E : Expr} {P : Code} (r : Ready (repeat δ E P) c n) {k : ℕ} (e : k ≡ many (writes (plainly P))) where
  pub repeat-room : 6 * (c + k + 1 + count (plainly P) + 1 + expr_count E + 2 + 1 + 3 * k) ≤ n
  unfolding count inline
  repeat-room = omega (arith, r.room, e)

  pub repeat-body : Ready P (c + k + 1) n
  repeat-body = record { formed = r.formed.2; basic = r.basic.1; room = omega (arith, repeat-room); small = r.small }

  pub repeat-switches : {q : ℕ} → q ≡ c + k + 1 + count (plainly P) → SwitchReady E (q + 1) n
  repeat-switches h = record { expr = record { formed = r.formed.1; room = omega (arith, repeat-room, h); small = r.small }; room = omega (arith, repeat-room, h) }

pub repeat-done : (δ : ℕ) (E : Expr) (P : Code) (at : Place) (us : Wires) (set n : ℕ) (latches : declared.Wires) {before m₁ m₂ m₃ end : List ℕ} {e : ℕ} {p : Place} {r : ℕ}
    → Agrees at.words.of us
    → Tells set (writes (plainly P))
    → n ≡ many (has set)
    → Agrees latches.of (placed (has set) at.cell (wired at.words.of))
    → ((vs : Wires) → Agrees latches.of vs → Done (plainly P) (place (at.cell + n) (at.cell + n + 1) latches) vs before m₁ p)
    → m₂ ≡ write p.cell (cell 34 δ p.wire 0 ∷ []) m₁
    → ((vs : Wires) → Agrees p.words.of vs → Switched vs E (p.cell + 1) p.cell m₂ m₃ e)
    → Round set at (e + 1) p.words (e + 2) m₃ end r
    → Done (plainly (repeat δ E P)) at us before end (place e r p.words)
unfolding inline finish_wire count outs
repeat-done δ E P at us set n latches {before} {m₁} {m₂} {m₃} {end} {e} {p} {r} same t told a body w₂ switched round =
    let c = at.cell in
    let P' = plainly P in
    let ls : Wires = placed (writes P') c us in
    let la : Agrees latches.of ls = latched set c P' at.words latches us t same a in
    let N = many (writes P') in
    let eN : n ≡ N = many-told set P' t told in
    let v : Done P' (place (c + N) (repeat_body E P' c) latches) ls before m₁ p = rw eN at (body ls la) in
    let vs : Wires = outs P' ls (repeat_body E P' c) in
    let u : Switched vs E (repeat_delay E P' c + 1) (repeat_delay E P' c) m₂ m₃ e = rw v.cell at (switched vs v.words) in
    let o = round-told set P' at (e + 1) p.words (e + 2) us vs m₃ t same v.words round in
    let k : e + 2 ≡ repeat_load E P' c = omega (arith, u.switch) in
    record {
      cells = repeat-cells δ E P' at.wire us c before v.cells (rw (v.cell, v.wire) at w₂) u.cells (rw (k, u.switch) at o);
      wire = u.switch;
      cell = omega (arith, round.cell, u.switch, eN, told);
      words = v.words;
    }
