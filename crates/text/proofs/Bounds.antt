-- No number of a reader is above the number of the tokens that it has read. Assumes nothing.
use Rattle.std.proofs.Common.{ℕ, suc, ◌≤◌, Bool, true, false, ◌&&◌, ◌||◌, eqb, ltb, leb, List, [], ◌∷◌, drop, arith}
use Rattle.model.specs.declared.texts.Mode.{Mode}
use Rattle.model.specs.declared.texts.Mode.TheVariants.{Statement, AfterStatement, Operand, AfterOperand, Becomes, Ticks, Delay, Body, Broken}
use Rattle.model.specs.declared.Node.{Node}
use Rattle.model.specs.declared.texts.Token.{Token}
use Rattle.model.specs.Word.{pick}
use Rattle.model.specs.Program.{node}
use Rattle.model.specs.Reader.{Frame, Popped, Reader, reader_at_first, hold_of, reach_of, pop, top_code, top_start, comparison, leaf, opened, opened_node, between, closed, turned, reduced, with_delay, on_statement, on_operand, on_after_operand, on_after_statement, on_delay, on_body, step_of}
use Rattle.text.specs.Shown.{highest, Within, with_mode, rewound}
use Rattle.text.proofs.Bytes.{insert-length, delay-length}

-- Frames -------------------------------------------------------------------------------------------------------------------------------

pub top-bound : (fs : List Frame) → top_start fs ≤ highest fs
unfolding top_start highest
top-bound [] = omega arith
top-bound (f ∷ fs) = omega arith

drop-bound : (fs : List Frame) → highest (drop 1 fs) ≤ highest fs
unfolding highest
drop-bound [] = omega arith
drop-bound (f ∷ fs) = omega arith

record Bounded (n : ℕ) (p : Popped) : Type 0 where
  pub start : p.start ≤ n
  pub frames : highest p.frames ≤ n

either : (n : ℕ) (b : Bool) (x y : Popped) → Bounded n x → Bounded n y → Bounded n (elim b [ true ↦ x | false ↦ y ])
either n true x y p q = p
either n false x y p q = q

pop-bound : (reach p n : ℕ) (fs : List Frame) → p ≤ n → highest fs ≤ n → Bounded n (pop reach p fs)
unfolding pop highest
pop-bound reach p n [] h k = record { start = h; frames = k }
pop-bound reach p n (f ∷ fs) h k =
    either n (ltb reach (hold_of f.code)) (pop reach f.start fs) (record { start = p; frames = f ∷ fs })
    (pop-bound reach f.start n fs (omega arith) (omega arith)) (record { start = h; frames = k })

-- Moves --------------------------------------------------------------------------------------------------------------------------------

module _ {n : ℕ} (r : Reader) (w : Within n r) where
  pub within-settled : Within n (reduced r)
  unfolding reduced
  within-settled =
      let b = pop-bound 0 r.start n r.frames w.start w.frames in
      record { start = b.start; frames = b.frames; cursor = w.cursor; nodes = w.nodes }

  within-mode : (m : Mode) → Within (suc n) (with_mode m r)
  within-mode m =
      record { start = omega (arith, w.start); frames = omega (arith, w.frames); cursor = omega (arith, w.cursor); nodes = omega (arith, w.nodes) }

  within-leaf : (m : Mode) (a : Node) → Within (suc n) (leaf m a r)
  unfolding leaf
  within-leaf m a =
      record {
        start = omega (arith, w.cursor);
        frames = omega (arith, w.frames);
        cursor = omega (arith, w.cursor);
        nodes = omega (arith, insert-length r.cursor a r.nodes, w.nodes);
      }

  within-opened : (m : Mode) (c : ℕ) → Within (suc n) (opened m c r)
  unfolding opened highest
  within-opened m c =
      record {
        start = omega (arith, w.start);
        frames = omega (arith, w.frames, w.cursor);
        cursor = omega (arith, w.cursor);
        nodes = omega (arith, w.nodes);
      }

  within-opened-node : (m : Mode) (c : ℕ) (a : Node) → Within (suc n) (opened_node m c a r)
  unfolding opened_node highest
  within-opened-node m c a =
      record {
        start = omega (arith, w.start);
        frames = omega (arith, w.frames, w.cursor);
        cursor = omega (arith, w.cursor);
        nodes = omega (arith, insert-length r.cursor a r.nodes, w.nodes);
      }

  within-between : (m : Mode) (c : ℕ) → Within (suc n) (between m c r)
  unfolding between highest
  within-between m c =
      let b = pop-bound (reach_of c) r.start n r.frames w.start w.frames in
      record {
        start = omega (arith, b.start);
        frames = omega (arith, b.start, b.frames);
        cursor = omega (arith, w.cursor);
        nodes = omega (arith, insert-length (pop (reach_of c) r.start r.frames).start (node c 0 0) r.nodes, w.nodes);
      }

  within-closed : (m : Mode) → Within n (closed m r)
  unfolding closed
  within-closed m =
      record {
        start = omega (arith, top-bound r.frames, w.frames);
        frames = omega (arith, drop-bound r.frames, w.frames);
        cursor = w.cursor;
        nodes = w.nodes;
      }

  within-turned : (m : Mode) (c : ℕ) → Within n (turned m c r)
  unfolding turned highest
  within-turned m c =
      record {
        start = w.start;
        frames = omega (arith, top-bound r.frames, drop-bound r.frames, w.frames);
        cursor = w.cursor;
        nodes = w.nodes;
      }

  within-rewound : Within (suc n) (rewound r)
  within-rewound =
      record {
        start = omega (arith, w.start);
        frames = omega (arith, w.frames);
        cursor = omega (arith, top-bound r.frames, w.frames);
        nodes = omega (arith, w.nodes);
      }

  within-delay : (m : Mode) (p d : ℕ) → p ≤ n → Within n (with_delay m p d r)
  unfolding with_delay
  within-delay m p d h =
      record { start = h; frames = w.frames; cursor = w.nodes; nodes = omega (arith, delay-length [] p d r.nodes, w.nodes) }

  pub within-up : (k : ℕ) → n ≤ k → Within k r
  within-up k h =
      record { start = omega (arith, w.start); frames = omega (arith, w.frames); cursor = omega (arith, w.cursor); nodes = omega (arith, w.nodes) }

  within_more : Within (suc n) r
  within_more = within-up (suc n) (omega arith)

-- Steps --------------------------------------------------------------------------------------------------------------------------------

chosen : {n : ℕ} (b : Bool) {x y : Reader} → Within n x → Within n y → Within n (pick b x y)
chosen true p q = p
chosen false p q = q

module _ {n : ℕ} (t : Token) (r : Reader) (w : Within n r) where
  on-statement : Within (suc n) (on_statement t r)
  unfolding on_statement
  on-statement =
      let c = t.code in
      chosen (eqb c 16) (within-leaf r w AfterStatement (node 16 0 0))
      (chosen (eqb c 17) (within-leaf r w Ticks (node 17 0 0))
      (chosen (eqb c 2) (within-opened-node r w Becomes 18 (node 18 0 t.value))
      (chosen (eqb c 21 || eqb c 22) (within-opened-node r w Operand c (node c 0 0))
      (chosen (eqb c 23) (within-opened-node r w Statement 23 (node 23 0 0))
      (chosen (eqb c 40) (within-opened r w Statement 40) (within-mode r w Broken))))))

  on-operand : Within (suc n) (on_operand t r)
  unfolding on_operand
  on-operand =
      let c = t.code in
      chosen (eqb c 1 || eqb c 2) (within-leaf r w AfterOperand (node c 0 t.value))
      (chosen (eqb c 3) (within-opened-node r w Operand 3 (node 3 0 0))
      (chosen (eqb c 38) (within-opened r w Operand 38) (within-mode r w Broken)))

  on-after-operand : Within (suc n) (on_after_operand t r)
  unfolding on_after_operand
  on-after-operand =
      let c = t.code in
      let top = top_code (reduced r).frames in
      let w' = within-settled r w in
      chosen (leb 4 c && leb c 9)
      (chosen (comparison c && comparison (top_code (pop 7 r.start r.frames).frames)) (within-mode r w Broken)
      (within-between r w Operand c))
      (chosen (eqb c 39 && eqb top 38) (within_more _ (within-closed (reduced r) w' AfterOperand))
      (chosen (eqb c 37 && ((eqb top 18 || eqb top 21) || (eqb top 22 || eqb top 35))) (within-mode (reduced r) w' Delay)
      (within-mode r w Broken)))

  on-after-statement : Within (suc n) (on_after_statement t r)
  unfolding on_after_statement turned
  on-after-statement =
      let c = t.code in
      let top = top_code (reduced r).frames in
      let w' = within-settled r w in
      let left = within_more _ (within-closed (reduced r) w' AfterStatement) in
      chosen (eqb c 19 || eqb c 20) (within-between r w Statement c)
      (chosen (eqb c 41 && eqb top 40) left
      (chosen (eqb c 33 && eqb top 32) (within_more _ (within-turned (reduced r) w' Statement 33))
      (chosen (eqb c 36 && (eqb top 33 || eqb top 34)) left
      (chosen (eqb c 35 && eqb top 23) (within-turned (rewound (reduced r)) (within-rewound (reduced r) w') Operand 35)
      (within-mode r w Broken)))))

  on-delay : Within (suc n) (on_delay t r)
  unfolding on_delay
  on-delay =
      let p = top_start r.frames in
      let d = within-delay r w Body p t.value (omega (arith, top-bound r.frames, w.frames)) in
      chosen (eqb t.code 1)
      (chosen (eqb (top_code r.frames) 18) (within_more _ (within-closed _ d AfterStatement)) (within_more _ d))
      (within-mode r w Broken)

  on-body : Within (suc n) (on_body t r)
  unfolding on_body
  on-body =
      let c = t.code in
      let top = top_code r.frames in
      chosen (eqb c 32 && eqb top 21) (within_more _ (within-turned r w Statement 32))
      (chosen (eqb c 34 && eqb top 22) (within_more _ (within-turned r w Statement 34))
      (chosen (eqb c 36 && eqb top 35) (within_more _ (within-closed r w AfterStatement)) (within-mode r w Broken)))

  pub within_step : (m : Mode) → Within (suc n) (step_of m t r)
  unfolding step_of
  within_step Statement = on-statement
  within_step AfterStatement = on-after-statement
  within_step Operand = on-operand
  within_step AfterOperand = on-after-operand
  within_step Becomes = chosen (eqb t.code 18) (within-mode r w Operand) (within-mode r w Broken)
  within_step Ticks =
      chosen (eqb t.code 1) (within_more _ (within-delay r w AfterStatement r.start t.value w.start)) (within-mode r w Broken)
  within_step Delay = on-delay
  within_step Body = on-body
  within_step Broken = within_more r w

pub within_first : Within 0 reader_at_first
unfolding highest
within_first = record { start = omega arith; frames = omega arith; cursor = omega arith; nodes = omega arith }
