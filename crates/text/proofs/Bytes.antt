-- Nodes in bytes: a node more, and a delay. Assumes nothing.
use Rattle.std.proofs.Common.{◌≡◌, ℕ, zero, suc, ◌+◌, ◌-◌, ◌*◌, ◌<◌, ◌≤◌, min, List, [], ◌∷◌, ◌++◌, length, get_or, take, drop, set, sym, refl, ap, ◌∙◌, append_assoc, arith, length-append, length-drop, length-set, drop_of_length-le, length-take, length-take-le, drop-cons, get_or-take, take-suc, take-take, take_at, drop_at}
use Rattle.std.specs.List.{copy_within}
use Rattle.std.proofs.lemmas.List.{drop-take}
use native.Mathlib.Numerals.{towards_suc}
use lib.ListN.{get_or-append}
use lib.Seq.{sets, sets-eq, set_at, take-append-le, take-set-lt, set_out}
use Rattle.model.specs.declared.Node.{Node}
use Rattle.model.specs.Word.{bytes16, put16}
use Rattle.model.specs.Program.{node, node_bytes}
use Rattle.model.specs.Reader.{insert_at, with_node_delay}
use Rattle.text.specs.Shown.{Keeps}

-- Bytes that move ----------------------------------------------------------------------------------------------------------------------

-- what stands in d from a to e has moved four bytes on; from a on four bytes are as they were
abbrev shifted : ℕ → ℕ → List ℕ → List ℕ
shifted a e d = take (a + 4) d ++ (drop a (take e d) ++ drop (e + 4) d)

moved : (d : List ℕ) (a e : ℕ) → a ≤ e → copy_within d a e (a + 4) ≡ shifted a e d
moved d a e h =
    let f : a + (e - a) ≡ e = omega arith in
    let g : a + 4 + (e - a) ≡ e + 4 = omega arith in
    let t : drop a (take e d) ≡ take (e - a) (drop a d) = rw f at (drop-take a (e - a) d) in
    rw (g, t, append_assoc) refl

module _ (d : List ℕ) (e : ℕ) (fits : e + 4 ≤ length d) where
  -- none has moved yet, and one more
  pub shift_none : copy_within d e e (e + 4) ≡ d
  shift_none =
      let n : drop e (take e d) ≡ [] = drop_of_length-le (take e d) {i = e} (rw (length-take-le e d (omega arith)) (omega arith)) in
      moved d e e (omega arith) ∙ rw n (lib.ListN.take-append-drop (e + 4) d)

  module _ (j : ℕ) (more : j < e) where
    long : length (take (suc j + 4) d) ≡ suc j + 4
    long = length-take-le (suc j + 4) d (omega arith)

    still : get_or (shifted (suc j) e d) j 0 ≡ get_or d j 0
    still =
        get_or-append (take (suc j + 4) d) _ 0 j (rw long (omega arith)) ∙ get_or-take (suc j + 4) d j 0 (omega arith)

    front : take (suc j + 4) d ≡ take (j + 4) d ++ (get_or d (j + 4) 0 ∷ [])
    front = let s : suc j + 4 ≡ suc (j + 4) = omega arith in rw s (take-suc d (j + 4) 0 (omega arith))

    next : drop j (take e d) ≡ get_or d j 0 ∷ drop (suc j) (take e d)
    next =
        rw (← get_or-take e d j 0 more)
        (drop-cons (take e d) j 0 (rw (length-take-le e d (omega arith)) more))

    shift_suc : set (shifted (suc j) e d) (j + 4) (get_or (shifted (suc j) e d) j 0) ≡ shifted j e d
    shift_suc =
        let rest = drop (suc j) (take e d) ++ drop (e + 4) d in
        let l : length (take (j + 4) d) ≡ j + 4 = length-take-le (j + 4) d (omega arith) in
        let f : take (suc j + 4) d ++ rest ≡ take (j + 4) d ++ (get_or d (j + 4) 0 ∷ rest) = rw (front, append_assoc) refl in
        rw (still, f, set_at (take (j + 4) d) (get_or d (j + 4) 0) rest (get_or d j 0) (j + 4) l, next) refl

  pub shift-more : (i : ℕ) → 0 < i → i ≤ e
      → set (copy_within d i e (i + 4)) (i - 1 + 4) (get_or (copy_within d i e (i + 4)) (i - 1) 0) ≡ copy_within d (i - 1) e (i - 1 + 4)
  shift-more zero n h = absurd (omega arith)
  shift-more (suc j) n h =
      let s : suc j - 1 ≡ j = omega arith in
      rw (s, moved d (suc j) e h, moved d j e (omega arith)) (shift_suc j (omega arith))

  -- four bytes put in at a
  module _ (a : ℕ) (below : a ≤ e) (vs : List ℕ) (four : length vs ≡ 4) where
    pub shift-put : take (e + 4) (sets (shifted a e d) a vs) ≡ take a d ++ (vs ++ drop a (take e d))
    shift-put =
        let rest = drop a (take e d) ++ drop (e + 4) d in
        let l : length (take (a + 4) d) ≡ a + 4 = length-take-le (a + 4) d (omega arith) in
        let whole = take (a + 4) d ++ rest in
        let s : sets whole a vs ≡ (take a whole ++ vs) ++ drop (a + length vs) whole
        = sets-eq vs whole a (rw length-append (omega arith)) in
        let t : take a whole ≡ take a d = take-append-le a (take (a + 4) d) rest (omega arith) ∙ take-take a (a + 4) d (omega arith) in
        let u : drop (a + 4) whole ≡ rest = drop_at (take (a + 4) d) rest (a + 4) l in
        let g : (take a d ++ (vs ++ drop a (take e d))) ++ drop (e + 4) d ≡ (take a d ++ vs) ++ rest = simp append_assoc in
        let m : length (take a d ++ (vs ++ drop a (take e d))) ≡ e + 4
        = simp (length-append, length-drop, length-take) (omega arith) in
        rw (s, t, four, u, ← g) (take_at (take a d ++ (vs ++ drop a (take e d))) (drop (e + 4) d) (e + 4) m)

-- The bytes of nodes -------------------------------------------------------------------------------------------------------------------

pub bytes-length : (ns : List Node) → length (node_bytes ns) ≡ 4 * length ns
unfolding node_bytes bytes16
bytes-length [] = refl
bytes-length (n ∷ ns) = omega (arith, bytes-length ns)

pub bytes-append : (ns ms : List Node) → node_bytes (ns ++ ms) ≡ node_bytes ns ++ node_bytes ms
unfolding node_bytes bytes16
bytes-append [] ms = refl
bytes-append (n ∷ ns) ms = rw (bytes-append ns ms)

four-more : (p : ℕ) → 4 * suc p ≡ suc (suc (suc (suc (4 * p))))
four-more p = omega arith

pub bytes_take : (p : ℕ) (ns : List Node) → take (4 * p) (node_bytes ns) ≡ node_bytes (take p ns)
unfolding node_bytes bytes16
bytes_take zero ns = refl
bytes_take (suc p) [] = rw (four-more p) refl
bytes_take (suc p) (n ∷ ns) = rw (four-more p, bytes_take p ns) refl

pub bytes_drop : (p : ℕ) (ns : List Node) → drop (4 * p) (node_bytes ns) ≡ node_bytes (drop p ns)
unfolding node_bytes bytes16
bytes_drop zero ns = refl
bytes_drop (suc p) [] = rw (four-more p) refl
bytes_drop (suc p) (n ∷ ns) = rw (four-more p, bytes_drop p ns) refl

-- A node more --------------------------------------------------------------------------------------------------------------------------

take_min : (p : ℕ) (ns : List Node) → take p ns ≡ take (min p (length ns)) ns
take_min zero ns = let e : min 0 (length ns) ≡ 0 = omega arith in rw e refl
take_min (suc p) [] = let e : min (suc p) 0 ≡ 0 = omega arith in rw e refl
take_min (suc p) (n ∷ ns) =
    let e : min (suc p) (suc (length ns)) ≡ suc (min p (length ns)) = omega arith in rw e (ap (λ (l : List Node). n ∷ l) (take_min p ns))

drop_min : (p : ℕ) (ns : List Node) → drop p ns ≡ drop (min p (length ns)) ns
drop_min zero ns = let e : min 0 (length ns) ≡ 0 = omega arith in rw e refl
drop_min (suc p) [] = let e : min (suc p) 0 ≡ 0 = omega arith in rw e refl
drop_min (suc p) (n ∷ ns) =
    let e : min (suc p) (suc (length ns)) ≡ suc (min p (length ns)) = omega arith in rw e (drop_min p ns)

pub insert-length : (p : ℕ) (n : Node) (ns : List Node) → length (insert_at p n ns) ≡ length ns + 1
insert-length p n ns = simp (length-append, length-take, length-drop) (omega arith)

four_bytes : Node → List ℕ
four_bytes n = n.kind ∷ n.delay ∷ bytes16 n.n

put-node : (d : List ℕ) (a : ℕ) (n : Node) {d' : List ℕ} → d' ≡ put16 (set (set d a n.kind) (a + 1) n.delay) (a + 2) n.n
    → d' ≡ sets d a (four_bytes n)
unfolding put16 bytes16 four_bytes
put-node d a n e = rw e (simp towards_suc)

module _ (d : List ℕ) (p : ℕ) (n : Node) (ns : List Node) (long : length d ≡ 800) where
  -- too many nodes are only counted
  pub insert-past : 200 ≤ length ns → Keeps d (insert_at p n ns)
  unfolding Keeps
  insert-past h = λ few. absurd (omega (arith, insert-length p n ns))

  pub insert-here : {q : ℕ} {d' d'' : List ℕ} → length ns < 200 → q ≡ min p (length ns) → d' ≡ copy_within d (4 * q) (4 * length ns) (4 * q + 4)
      → d'' ≡ put16 (set (set d' (4 * q) n.kind) (4 * q + 1) n.delay) (4 * q + 2) n.n → Keeps d ns → Keeps d'' (insert_at p n ns)
  unfolding Keeps node_bytes four_bytes bytes16
  insert-here {q} {d'} {d''} h m e f k =
      λ few.
      let was : take (4 * length ns) d ≡ node_bytes ns = k (omega arith) in
      let g : d'' ≡ sets (shifted (4 * q) (4 * length ns) d) (4 * q) (four_bytes n)
      = rw (← moved d (4 * q) (4 * length ns) (omega arith), ← e) (put-node d' (4 * q) n f) in
      let before : take (4 * q) d ≡ node_bytes (take q ns)
      = sym (take-take (4 * q) (4 * length ns) d (omega arith)) ∙ (ap (take (4 * q)) was ∙ bytes_take q ns) in
      let behind : drop (4 * q) (take (4 * length ns) d) ≡ node_bytes (drop q ns) = ap (drop (4 * q)) was ∙ bytes_drop q ns in
      let size : 4 * length (insert_at p n ns) ≡ 4 * length ns + 4 = omega (arith, insert-length p n ns) in
      rw (
        size,
        g,
        shift-put d (4 * length ns) (omega arith) (4 * q) (omega arith) (four_bytes n) refl,
        before,
        behind,
        take_min p ns,
        drop_min p ns,
        ← m,
        bytes-append (take q ns) (n ∷ drop q ns),
      )
      refl

-- A delay ------------------------------------------------------------------------------------------------------------------------------

delay-bytes : (p v : ℕ) (ns : List Node) → set (node_bytes ns) (4 * p + 1) v ≡ node_bytes (with_node_delay p v ns)
unfolding node_bytes bytes16
delay-bytes p v [] = refl
delay-bytes zero v (n ∷ ns) = refl
delay-bytes (suc p) v (n ∷ ns) =
    let e : 4 * suc p + 1 ≡ suc (suc (suc (suc (4 * p + 1)))) = omega arith in rw (e, delay-bytes p v ns) refl

module _ (d : List ℕ) (p v : ℕ) (ns : List Node) where
  pub delay-length : length (with_node_delay p v ns) ≡ length ns
  delay-length = length-set ns p _

  pub delay-past : length ns ≤ p → Keeps d ns → Keeps d (with_node_delay p v ns)
  delay-past h k = rw (set_out ns p (node (get_or ns p (node 0 0 0)).kind v (get_or ns p (node 0 0 0)).n) h) k

  pub delay-many : 200 < length ns → Keeps d (with_node_delay p v ns)
  unfolding Keeps
  delay-many h = λ few. absurd (omega (arith, delay-length))

  pub delay-here : p < length ns → Keeps d ns → Keeps (set d (4 * p + 1) v) (with_node_delay p v ns)
  unfolding Keeps
  delay-here h k =
      λ few.
      let was : take (4 * length ns) d ≡ node_bytes ns = k (omega (arith, delay-length)) in
      rw (delay-length, take-set-lt (4 * length ns) d (4 * p + 1) v (omega arith), was) (delay-bytes p v ns)
