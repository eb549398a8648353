-- The moves of a machine: what each shows, from what the functions on frames and on nodes leave. Assumes nothing.
use Rattle.std.proofs.Common.{◌≡◌, ℕ, ◌+◌, ◌-◌, ◌%◌, ◌<◌, List, ◌∷◌, length, drop, sym, refl, ◌∙◌, arith}
use Rattle.model.specs.declared.texts.Mode.{Mode}
use Rattle.model.specs.declared.texts.Mode.TheVariants.{Statement}
use Rattle.model.specs.declared.Node.{Node}
use Rattle.model.specs.Program.{node, node_bytes}
use Rattle.model.specs.Reader.{Reader, reader, reader_at_first, frame, reach_of, pop, top_start, insert_at, with_node_delay, leaf, opened, opened_node, between, closed, turned, reduced, with_delay}
use Rattle.text.specs.declared.frames.Open.{Open}
use Rattle.text.specs.declared.frames.Popped.{Popped}
use Rattle.text.specs.declared.machine.Machine.{Machine}
use Rattle.text.specs.Shown.{frames_in, Pops, Keeps, Lists, lists, Shows, Follows, FollowsWithin, with_mode, rewound, with_node}
use Rattle.text.proofs.Stack.{frames-drop}
use Rattle.text.proofs.Bytes.{delay-length}
use Rattle.text.proofs.Bounds.{top-bound}

abbrev machine : Mode → ℕ → ℕ → ℕ → ℕ → Machine
machine m p h u n = record { mode = m; start = p; height = h; cursor = u; count = n }

-- what the functions on nodes leave
abbrev Inserts : ℕ → ℕ → Node → List ℕ → List ℕ → Type 0
Inserts at count n d d' = (ns : List Node) → count ≡ length ns → Keeps d ns → Keeps d' (insert_at at n ns)

abbrev Delays : ℕ → ℕ → ℕ → List ℕ → List ℕ → Type 0
Delays at count v d d' = (ns : List Node) → count ≡ length ns → Keeps d ns → Keeps d' (with_node_delay at v ns)

pub first-shown : (l : Lists) → Shows reader_at_first (machine Statement 0 0 0 0) l
unfolding frames_in Keeps node_bytes
first-shown l = record { mode = refl; start = refl; frames = refl; cursor = refl; count = refl; nodes = λ few. refl }

module _ (s : List Open) (d : List ℕ) (m : Machine) where
  -- Nodes --------------------------------------------------------------------------------------------------------------------------------

  -- what a move with a node more at the cursor shows
  abbrev Shown : Machine → List ℕ → Node → Type 0
  Shown x d' n = (r : Reader) → r.cursor < 65535 → Shows r m (lists s d) → Shows (with_node m.cursor n r) x (lists s d')

  pub leaf-shown : (d' : List ℕ) (mode : Mode) (n : Node) (x : Machine) → Shown x d' n
      → FollowsWithin (leaf mode n) m (lists s d) (machine mode m.cursor x.height x.cursor x.count) (lists s d')
  unfolding leaf
  leaf-shown d' mode n x f r w h =
      let o = f r (omega (arith, w.cursor)) h in
      rw (← h.cursor) (record { mode = refl; start = refl; frames = o.frames; cursor = o.cursor ∙ rw h.cursor refl; count = o.count; nodes = o.nodes })

  pub delay-shown : (d' : List ℕ) (mode : Mode) (p v : ℕ) → Delays p m.count v d d'
      → Follows (with_delay mode p v) m (lists s d) (machine mode p m.height m.count m.count) (lists s d')
  unfolding with_delay
  delay-shown d' mode p v i r h =
      record {
        mode = refl;
        start = refl;
        frames = h.frames;
        cursor = h.count;
        count = h.count ∙ sym (delay-length d p v r.nodes);
        nodes = i r.nodes h.count h.nodes;
      }

  -- Frames -------------------------------------------------------------------------------------------------------------------------------

  module _ (s' : List Open) where
    pub opened-shown : (mode : Mode) (code : ℕ) → frames_in s' (m.height + 1) ≡ frame code m.cursor ∷ frames_in s m.height
        → Follows (opened mode code) m (lists s d) (machine mode m.start (m.height + 1) m.cursor m.count) (lists s' d)
    unfolding opened
    opened-shown mode code e r h =
        record {
          mode = refl;
          start = h.start;
          frames = rw (h.cursor, h.frames) at e;
          cursor = h.cursor;
          count = h.count;
          nodes = h.nodes;
        }

    pub opened-node-shown : (d' : List ℕ) (mode : Mode) (code : ℕ) (n : Node) {o x : Machine}
        → Follows (opened mode code) m (lists s d) o (lists s' d)
        → ((r : Reader) → r.cursor < 65535 → Shows r o (lists s' d) → Shows (with_node m.cursor n r) x (lists s' d'))
        → FollowsWithin (opened_node mode code n) m (lists s d) x (lists s' d')
    unfolding opened opened_node
    opened-node-shown d' mode code n f g r w h = rw h.cursor at (g (opened mode code r) (omega (arith, w.cursor)) (f r h))

    pub between-shown : (d' : List ℕ) (mode : Mode) (code : ℕ) {reach : ℕ} {p : Popped} {x : Machine} → reach ≡ reach_of code
        → Pops s reach m.start m.height p → frames_in s' (p.height + 1) ≡ frame code p.start ∷ frames_in s p.height
        → ((r : Reader) → r.cursor < 65535 → Shows r (machine mode p.start (p.height + 1) m.cursor m.count) (lists s' d)
        → Shows (with_node p.start (node code 0 0) r) x (lists s' d'))
        → FollowsWithin (between mode code) m (lists s d) x (lists s' d')
    unfolding between
    between-shown d' mode code {reach} {p} q pops e g r w h =
        let p' = pop (reach_of code) r.start r.frames in
        let a : p.start ≡ p'.start = rw (q, h.start, h.frames) at pops.start in
        let b : frames_in s p.height ≡ p'.frames = rw (q, h.start, h.frames) at pops.frames in
        let opened : Shows (reader mode p'.start (frame code p'.start ∷ p'.frames) r.cursor r.nodes) (machine mode p.start (p.height + 1) m.cursor m.count) (lists s' d) =
        record { mode = refl; start = a; frames = rw (a, b) at e; cursor = h.cursor; count = h.count; nodes = h.nodes } in
        rw a at (g _ (omega (arith, w.cursor)) opened)

    pub turned-shown : (mode : Mode) (code : ℕ) {p k : ℕ} → p ≡ top_start (frames_in s m.height) → k ≡ m.height - 1
        → frames_in s' (k + 1) ≡ frame code p ∷ frames_in s k
        → Follows (turned mode code) m (lists s d) (machine mode m.start (k + 1) m.cursor m.count) (lists s' d)
    unfolding turned
    turned-shown mode code {p} {k} a b e r h =
        let f : frames_in s k ≡ drop 1 r.frames = rw (b, ← h.frames) (sym (frames-drop s m.height)) in
        let g : p ≡ top_start r.frames = rw h.frames at a in
        record {
          mode = refl;
          start = h.start;
          frames = rw (g, f) at e;
          cursor = h.cursor;
          count = h.count;
          nodes = h.nodes;
        }

  pub closed-shown : (mode : Mode) {p k : ℕ} → p ≡ top_start (frames_in s m.height) → k ≡ m.height - 1
      → Follows (closed mode) m (lists s d) (machine mode p k m.cursor m.count) (lists s d)
  unfolding closed
  closed-shown mode {p} {k} a b r h =
      record {
        mode = refl;
        start = rw h.frames at a;
        frames = rw (b, ← h.frames) (sym (frames-drop s m.height));
        cursor = h.cursor;
        count = h.count;
        nodes = h.nodes;
      }

  pub settled-shown : {p : Popped} → Pops s 0 m.start m.height p
      → Follows reduced m (lists s d) (machine m.mode p.start p.height m.cursor m.count) (lists s d)
  unfolding reduced
  settled-shown {p} pops r h =
      record {
        mode = h.mode;
        start = rw (h.start, h.frames) at pops.start;
        frames = rw (h.start, h.frames) at pops.frames;
        cursor = h.cursor;
        count = h.count;
        nodes = h.nodes;
      }

  pub rewound-shown : {p u : ℕ} → p ≡ top_start (frames_in s m.height) → u ≡ (p + 1) % 65536
      → FollowsWithin rewound m (lists s d) (machine m.mode m.start m.height u m.count) (lists s d)
  rewound-shown {p} {u} a e r w h =
      let g : p ≡ top_start r.frames = rw h.frames at a in
      record {
        mode = h.mode;
        start = h.start;
        frames = h.frames;
        cursor = omega (arith, top-bound r.frames, w.frames);
        count = h.count;
        nodes = h.nodes;
      }

  pub mode-shown : (mode : Mode) → Follows (with_mode mode) m (lists s d) (machine mode m.start m.height m.cursor m.count) (lists s d)
  mode-shown mode r h =
      record { mode = refl; start = h.start; frames = h.frames; cursor = h.cursor; count = h.count; nodes = h.nodes }
