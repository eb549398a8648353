-- Compact states and runs with what is said of them, worked out by hand from the paper: the run of the full states byte for byte, three starts, the number
-- of a line, refusal 15 clause by clause, and 26 with its place and what it leaves.
-- Assumes nothing.
use Rattle.std.specs.Prelude.{◌≡◌, refl, Bool, true, false, List, [], ◌∷◌, ◌++◌, map, ℕ, ◌+◌, ◌*◌, set, replicate}
use Rattle.model.specs.declared.Cell.{Cell}
use Rattle.model.specs.declared.Format.TheVariants.{Compact}
use Rattle.model.specs.Refusals.{refuse, Checked, Accepted}
use Rattle.model.specs.Circuit.{cell}
use Rattle.model.specs.NetlistFile.{file_of, net_of}
use Rattle.model.specs.State.{instant_of, flight_of, course, now_at, left_at, begin_state, step_state, continued, sound}
use Rattle.model.specs.Calls.{is_too_long, word_at, refused_answer, shows, running, begin_call, going_on, continue_call}
use Rattle.model.specs.Netlists.{numbering, front, idle, arrays}
use Rattle.rows.specs.StateRows.{net, start_bytes, brief, course_of}

-- A run --------------------------------------------------------------------------------------------------------------------------------

-- The twelve cells of the full states: instants 0, 1 and 9 from a beginning, 10 with a second start, and 19. Cell 3 is the delay of 9.
state0 : List ℕ
state0 =
    (0 ∷ 0 ∷ 0 ∷ 0 ∷ 2 ∷ 0 ∷ 0 ∷ 0 ∷ [])
    ++ (1 ∷ replicate 7 0)  -- start
    ++ replicate 8 0  -- ground
    ++ (5 ∷ replicate 7 0)  -- constant
    ++ (0 ∷ 0 ∷ 0 ∷ 0 ∷ 0 ∷ 0 ∷ 9 ∷ 0 ∷ [])  -- delay: its pulse comes out in 9 instants
    ++ (1 ∷ 2 ∷ replicate 6 0)  -- memory of x0
    ++ (3 ∷ 4 ∷ replicate 6 0)  -- memory of x1
    ++ (0 ∷ 0 ∷ 0 ∷ 0 ∷ 1 ∷ 0 ∷ 0 ∷ 0 ∷ [])  -- merge
    ++ replicate 16 0  -- array 1
    ++ (6 ∷ 7 ∷ replicate 6 0)  -- read of element 5
    ++ (65 ∷ replicate 7 0)  -- constant
    ++ replicate 8 0  -- read of element 1
    ++ replicate 138 0 ++ (6 ∷ 7 ∷ replicate 372 0)  -- elements

state1 : List ℕ
state1 =
    (1 ∷ 0 ∷ 0 ∷ 0 ∷ 2 ∷ 0 ∷ 0 ∷ 0 ∷ [])
    ++ (0 ∷ 0 ∷ 1 ∷ replicate 5 0)
    ++ replicate 8 0
    ++ (5 ∷ 0 ∷ 5 ∷ replicate 5 0)
    ++ (0 ∷ 0 ∷ 0 ∷ 0 ∷ 0 ∷ 0 ∷ 8 ∷ 0 ∷ [])
    ++ (5 ∷ 0 ∷ 1 ∷ 2 ∷ replicate 4 0)
    ++ (3 ∷ 4 ∷ 3 ∷ 4 ∷ replicate 4 0)
    ++ (0 ∷ 0 ∷ 0 ∷ 0 ∷ 1 ∷ 0 ∷ 0 ∷ 0 ∷ [])
    ++ replicate 16 0
    ++ (6 ∷ 7 ∷ 6 ∷ 7 ∷ replicate 4 0)
    ++ (65 ∷ 0 ∷ 65 ∷ replicate 5 0)
    ++ (5 ∷ replicate 7 0)
    ++ replicate 130 0 ++ (5 ∷ replicate 7 0) ++ (6 ∷ 7 ∷ replicate 372 0)

-- the pulse has come out: no instants are left, and nothing is in flight
state9 : List ℕ
state9 =
    (9 ∷ replicate 7 0)
    ++ replicate 16 0
    ++ (5 ∷ 0 ∷ 5 ∷ replicate 5 0)
    ++ (1 ∷ replicate 7 0)
    ++ (5 ∷ 0 ∷ 5 ∷ replicate 5 0)
    ++ (3 ∷ 4 ∷ 3 ∷ 4 ∷ replicate 4 0)
    ++ (1 ∷ replicate 7 0)
    ++ replicate 16 0
    ++ (6 ∷ 7 ∷ 6 ∷ 7 ∷ replicate 4 0)
    ++ (65 ∷ 0 ∷ 65 ∷ replicate 5 0)
    ++ (5 ∷ 0 ∷ 5 ∷ replicate 5 0)
    ++ replicate 130 0 ++ (5 ∷ replicate 7 0) ++ (6 ∷ 7 ∷ replicate 372 0)

state10 : List ℕ
state10 =
    (10 ∷ 0 ∷ 0 ∷ 0 ∷ 2 ∷ 0 ∷ 0 ∷ 0 ∷ [])
    ++ (1 ∷ replicate 7 0)
    ++ replicate 8 0
    ++ (5 ∷ 0 ∷ 5 ∷ replicate 5 0)
    ++ (0 ∷ 0 ∷ 1 ∷ 0 ∷ 0 ∷ 0 ∷ 9 ∷ 0 ∷ [])
    ++ (5 ∷ 0 ∷ 5 ∷ replicate 5 0)
    ++ (3 ∷ 4 ∷ 3 ∷ 4 ∷ replicate 4 0)
    ++ (0 ∷ 0 ∷ 1 ∷ 0 ∷ 1 ∷ 0 ∷ 0 ∷ 0 ∷ [])
    ++ replicate 16 0
    ++ (6 ∷ 7 ∷ 6 ∷ 7 ∷ replicate 4 0)
    ++ (65 ∷ 0 ∷ 65 ∷ replicate 5 0)
    ++ (5 ∷ 0 ∷ 5 ∷ replicate 5 0)
    ++ replicate 130 0 ++ (5 ∷ replicate 7 0) ++ (6 ∷ 7 ∷ replicate 372 0)

state19 : List ℕ
state19 =
    (19 ∷ replicate 7 0)
    ++ replicate 16 0
    ++ (5 ∷ 0 ∷ 5 ∷ replicate 5 0)
    ++ (1 ∷ replicate 7 0)
    ++ (5 ∷ 0 ∷ 5 ∷ replicate 5 0)
    ++ (3 ∷ 4 ∷ 3 ∷ 4 ∷ replicate 4 0)
    ++ (1 ∷ replicate 7 0)
    ++ replicate 16 0
    ++ (5 ∷ 0 ∷ 5 ∷ replicate 5 0)
    ++ (65 ∷ 0 ∷ 65 ∷ replicate 5 0)
    ++ (5 ∷ 0 ∷ 5 ∷ replicate 5 0)
    ++ replicate 130 0 ++ (5 ∷ replicate 7 0) ++ (5 ∷ replicate 373 0)

begin-right : begin_state Compact (brief net) (word_at start_bytes) (replicate 616 9 ++ (7 ∷ 7 ∷ [])) ≡ state0 ++ (7 ∷ 7 ∷ [])
unfolding course_of state0
begin-right = refl

-- a state, how many instants it is continued by, the state then, and how many were evaluated
further : List (List ℕ × ℕ × List ℕ × ℕ)
further =
    (state0, 0, state0, 0)
    ∷ (state0, 1, state1, 1)
    ∷ (state0 ++ (7 ∷ 7 ∷ []), 1, state1 ++ (7 ∷ 7 ∷ []), 1)
    ∷ (state0, 20, state9, 9)
    ∷ (state1, 8, state9, 8)
    ∷ (state10, 20, state19, 9)
    ∷ []

further-right : map (λ r. continued Compact (brief net) 6 r.1 r.0) further ≡ map (λ r. course Accepted r.2 r.3) further
unfolding further course_of state0 state1 state9 state10 state19
further-right = refl

start_right : step_state Compact (brief net) true (state9 ++ (7 ∷ 7 ∷ [])) ≡ state10 ++ (7 ∷ 7 ∷ [])
unfolding course_of state9 state10
start_right = refl

-- Three starts ------------------------------------------------------------------------------------------------------------------------

-- x0 := !x0, d 1, without what it has no use for: delays 3 and 4, the memory 5, the complement 6, the 41 on 3. Each run takes 2 and is from the
-- word that the one before has left.
abbrev flips : List Cell
flips =
    cell 32 0 0 0 ∷ cell 33 0 0 0 ∷ cell 1 0 0 0 ∷ cell 34 1 0 0 ∷ cell 34 1 3 0 ∷ cell 40 0 3 7 ∷ cell 3 0 5 0 ∷ cell 41 0 3 6 ∷ []

-- whether a start is given, and the finish, the word and the number then
instants : List (Bool × ℕ × ℕ × ℕ)
instants =
    (false, 0, 0, 1)
    ∷ (false, 1, 65535, 0)
    -- the second start, right after the end, and the third, some instants later
    ∷ (true, 0, 65535, 1)
    ∷ (false, 0, 65535, 1)
    ∷ (false, 1, 0, 0)
    ∷ (false, 0, 0, 0)
    ∷ (true, 0, 0, 1)
    ∷ (false, 0, 0, 1)
    ∷ (false, 1, 65535, 0)
    ∷ []

abbrev seen : List ℕ → List Bool → List (ℕ × ℕ × ℕ)
seen s [] = []
seen s (x ∷ xs) =
    let t = step_state Compact (brief flips) x s in
    (now_at Compact t 4, now_at Compact t 5, flight_of t) ∷ seen t xs

instants-right :
    seen (begin_state Compact (brief flips) (word_at []) (replicate 584 0)) (map (λ r. r.0) instants) ≡ map (λ r. (r.1, r.2, r.3)) instants
unfolding instants course_of
instants-right = refl

-- Refusal 15 ---------------------------------------------------------------------------------------------------------------------------

-- byte j of cell k
abbrev at : ℕ → ℕ → ℕ
at k j = 8 + 8 * k + j

-- of the twelve cells: a byte of the state, a value for it, the number that the state tells, and whether the state is good if all its other bytes are 0
bytes : List (ℕ × ℕ × ℕ × Bool)
bytes =
    -- the number of a line: up to the delay, at a delay and nowhere else; it counts as one in flight, whatever it is
    (at 3 6, 0, 0, true)
    ∷ (at 3 6, 1, 1, true)
    ∷ (at 3 6, 9, 1, true)
    ∷ (at 3 6, 10, 1, false)
    ∷ (at 3 6, 10, 0, false)
    ∷ (at 3 6, 9, 0, false)
    ∷ (at 3 6, 9, 9, false)
    ∷ (at 0 6, 1, 0, false)
    ∷ (at 0 6, 1, 1, false)
    ∷ (at 4 6, 1, 0, false)
    ∷ (at 6 6, 1, 0, false)
    ∷ (at 7 6, 1, 0, false)
    -- the second zero byte
    ∷ (at 3 7, 1, 0, false)
    ∷ (at 6 7, 1, 0, false)
    -- control values and held bits
    ∷ (at 0 0, 1, 0, true)
    ∷ (at 0 0, 2, 0, false)
    ∷ (at 0 3, 1, 0, false)
    ∷ (at 2 0, 2, 0, true)
    ∷ (at 6 4, 1, 1, true)
    ∷ (at 6 4, 2, 0, false)
    ∷ (at 6 5, 1, 1, true)
    ∷ (at 3 4, 1, 0, false)
    -- elements and instant
    ∷ (at 12 0, 255, 0, true)
    ∷ (615, 255, 0, true)
    ∷ (0, 255, 0, true)
    ∷ (999, 0, 1, false)
    ∷ []

bytes-right : map (λ r. sound Compact (brief net) (set (set (replicate 616 0) 4 r.2) r.0 r.1)) bytes ≡ map (λ r. r.3) bytes
unfolding bytes course_of
bytes-right = refl

-- Refusal 26 ---------------------------------------------------------------------------------------------------------------------------

-- a start, a delay of d of it, an or of both, and delays of e and g of that: pulses enter the last two at 0 and at d
abbrev fork : ℕ → ℕ → ℕ → List Cell
fork d e g = cell 32 0 0 0 ∷ cell 34 d 0 0 ∷ cell 35 0 0 1 ∷ cell 34 e 2 0 ∷ cell 34 g 2 0 ∷ []

abbrev begun : List Cell → List ℕ
begun cells = begin_state Compact (brief cells) (word_at []) (replicate 560 0)

-- the delays, the finish, the number of instants asked for, what ends the continuing, the instant at which the state is left and how many were
-- evaluated; and the numbers of the three lines then
meets : List (List Cell × ℕ × ℕ × Checked × ℕ × ℕ × ℕ × ℕ)
meets =
    -- one instant later into a line of 3: the state stays
    (fork 1 3 1, 3, 5, refuse 26 3, 0, 1, 3, 1)
    ∷ (fork 1 1 3, 3, 5, refuse 26 4, 0, 1, 1, 3)
    -- both: the lowest
    ∷ (fork 1 2 3, 4, 5, refuse 26 3, 0, 1, 2, 3)
    -- two instants later: into a line of 2 as its pulse comes out; into one of 3 an instant too early. The finish at 2 does not save it
    ∷ (fork 2 2 3, 1, 5, refuse 26 4, 1, 1, 1, 2)
    ∷ (fork 2 2 1, 1, 5, Accepted, 2, 0, 2, 1)
    -- not asked for: a continuing by 1 is good, and by 0
    ∷ (fork 2 2 3, 1, 1, Accepted, 1, 1, 1, 2)
    ∷ (fork 1 3 1, 3, 0, Accepted, 0, 1, 3, 1)
    ∷ []

abbrev Met : Type 0
Met = Checked × ℕ × ℕ × ℕ × ℕ × ℕ

abbrev met : List Cell → ℕ → ℕ → Met
met cells finish n =
    let c = continued Compact (brief cells) finish n (begun cells) in
    (c.check, instant_of c.state, c.count, left_at Compact c.state 1, left_at Compact c.state 3, left_at Compact c.state 4)

abbrev expected : List Cell × ℕ × ℕ × Checked × ℕ × ℕ × ℕ × ℕ → Met
expected r = (r.3, r.4, r.4, r.5, r.6, r.7)

meets-right : map (λ r. met r.0 r.1 r.2) meets ≡ map expected meets
unfolding meets course_of
meets-right = refl

-- the call: after 27 cells more, pulses at 0 and 2 into a line of 3, which is cell 5. It is refused, and leaves the state of instant 1,
-- an instant further.
abbrev file : List ℕ
file = file_of 1 (front (cell 34 2 0 0 ∷ cell 35 0 0 3 ∷ cell 34 3 4 0 ∷ idle 16 (arrays []))) 3

abbrev lent : List ℕ
lent = (begin_call Compact file (replicate 544 0) (replicate 770 0)).lent

call-right :
    continue_call Compact file 5 lent
    ≡ record { answer = refused_answer (record { number = 26; place = 5 }); lent = step_state Compact (net_of file) false lent }
unfolding is_too_long continue_call going_on begin_call running shows numbering course_of
call-right = refl
