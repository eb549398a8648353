-- What a machine and its two lists show of the reader of model/Reader: the stack of what is still open, and the bytes of the nodes.
-- Assumes nothing: definitions.
use Rattle.std.specs.Prelude.{◌≡◌, ℕ, zero, suc, ◌+◌, ◌*◌, ◌<◌, ◌≤◌, max, Bool, ltb, List, [], ◌∷◌, length, take, slice_index_or}
use Rattle.model.specs.declared.texts.Mode.{Mode}
use Rattle.model.specs.declared.texts.Mode.TheVariants.{Statement, AfterStatement, Operand, AfterOperand, Becomes, Ticks, Delay, Body, Broken}
use Rattle.model.specs.declared.Node.{Node}
use Rattle.model.specs.Program.{node_bytes}
use Rattle.model.specs.Reader.{Frame, frame, Reader, reader, insert_at, hold_of, pop, top_start}
use Rattle.text.specs.declared.frames.Open.{Open}
use Rattle.text.specs.declared.frames.Popped.{Popped}
use Rattle.text.specs.declared.machine.Machine.{Machine}

-- Frames -------------------------------------------------------------------------------------------------------------------------------

abbrev pub frame_of : Open → Frame
frame_of x = frame x.code x.start

-- what an empty stack tells of its frame on top
abbrev pub no_frame : Open
no_frame = record { code = 0; start = 0 }

-- the frames of a stack that is h high, the one on top first
unfoldable pub frames_in : List Open → ℕ → List Frame
frames_in stack zero = []
frames_in stack (suc h) = frame_of (slice_index_or stack h no_frame) ∷ frames_in stack h

-- what is open holds more tightly than reach
abbrev pub tight : ℕ → Open → Bool
tight reach x = ltb reach (hold_of x.code)

-- the operators on top that are complete are taken off
pub record Pops (stack : List Open) (reach p h : ℕ) (r : Popped) : Type 0 where
  pub start : r.start ≡ (pop reach p (frames_in stack h)).start
  pub frames : frames_in stack r.height ≡ (pop reach p (frames_in stack h)).frames
  pub lower : r.height ≤ h

-- the largest start of all frames
unfoldable pub highest : List Frame → ℕ
highest [] = 0
highest (f ∷ fs) = max f.start (highest fs)

-- Nodes --------------------------------------------------------------------------------------------------------------------------------

-- the list begins with the bytes of the nodes, as long as they are at most 200
unfoldable pub Keeps : List ℕ → List Node → Type 0
Keeps d ns = length ns ≤ 200 → take (4 * length ns) d ≡ node_bytes ns

-- The machine --------------------------------------------------------------------------------------------------------------------------

-- the lists that a machine works on
pub record Lists : Type 0 where
  pub stack : List Open
  pub nodes : List ℕ

abbrev pub lists : List Open → List ℕ → Lists
lists s n = record { stack = s; nodes = n }

pub record Shows (r : Reader) (m : Machine) (l : Lists) : Type 0 where
  pub mode : m.mode ≡ r.mode
  pub start : m.start ≡ r.start
  pub frames : frames_in l.stack m.height ≡ r.frames
  pub cursor : m.cursor ≡ r.cursor
  pub count : m.count ≡ length r.nodes
  pub nodes : Keeps l.nodes r.nodes

-- what a machine asks for a move
pub record Ready (m : Machine) (l : Lists) : Type 0 where
  pub stack : length l.stack ≡ 4096
  pub nodes : length l.nodes ≡ 800
  pub height : m.height < 4096
  pub count : m.count < 4096

-- a move adds at most so many frames and nodes
pub record Grows (h n : ℕ) (m x : Machine) : Type 0 where
  pub height : x.height ≤ m.height + h
  pub count : x.count ≤ m.count + n

-- no number of a reader that has read n tokens is above n
pub record Within (n : ℕ) (r : Reader) : Type 0 where
  pub start : r.start ≤ n
  pub frames : highest r.frames ≤ n
  pub cursor : r.cursor ≤ n
  pub nodes : length r.nodes ≤ n

-- whatever reader was shown before a move, after it the reader is shown that f makes of it
abbrev pub Follows : (Reader → Reader) → Machine → Lists → Machine → Lists → Type 0
Follows f m before x after = (r : Reader) → Shows r m before → Shows (f r) x after

-- the same of a reader that has read fewer than 4,096 tokens
abbrev pub FollowsWithin : (Reader → Reader) → Machine → Lists → Machine → Lists → Type 0
FollowsWithin f m before x after = (r : Reader) → Within 4095 r → Shows r m before → Shows (f r) x after

-- moves that model/Reader writes out: into another mode, with the cursor behind the node of the frame on top, and with a node more
abbrev pub with_mode : Mode → Reader → Reader
with_mode m r = reader m r.start r.frames r.cursor r.nodes

abbrev pub rewound : Reader → Reader
rewound r = reader r.mode r.start r.frames (top_start r.frames + 1) r.nodes

abbrev pub with_node : ℕ → Node → Reader → Reader
with_node at n r = reader r.mode r.start r.frames (r.cursor + 1) (insert_at at n r.nodes)

-- "right after `@` or `tick` to 255": the largest value of a token that is read in this mode
unfoldable pub limit_of : Mode → ℕ
limit_of Statement = 65535
limit_of AfterStatement = 65535
limit_of Operand = 65535
limit_of AfterOperand = 65535
limit_of Becomes = 65535
limit_of Ticks = 255
limit_of Delay = 255
limit_of Body = 65535
limit_of Broken = 65535
