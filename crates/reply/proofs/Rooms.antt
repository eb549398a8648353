-- What an exported function leaves: with room for a reply, what its call leaves; without, what was there. Assumes nothing.
use mathlib.Core.Path.{◌≡◌, refl, sym, ◌∙◌, ap}
use mathlib.Core.Bool.{true, false}
use mathlib.Core.List.{List}
use Prim.Native.Nat.{ℕ, ◌<◌, ◌≤◌}
use lib.ListN.{length}
use borrow.Author.Tests.{le-leb, lt-leb}
use Rattle.reply.specs.declared.Reply.{Reply}
use Rattle.reply.specs.Replies.{replied, room_for, if_room}

module _ (reply : List ℕ) (l : 48 ≤ length reply) where
  pub room : true ≡ room_for reply
  room = sym (le-leb 48 (length reply) l)

  pub left : {A : Type 0} (out after before : List A) → out ≡ after → out ≡ if_room reply after before
  left out after before e = rw (← room) e

  pub put_in : (out : List ℕ) (r q : Reply) → out ≡ replied r reply → r ≡ q → out ≡ if_room reply (replied q reply) reply
  put_in out r q e f = left out (replied q reply) reply (e ∙ ap (λ (r : Reply). replied r reply) f)

  -- after a call with one lent list
  pub answered : (lent after before out : List ℕ) (r q : Reply) → lent ≡ after → out ≡ replied r reply → r ≡ q → (true ≡ room_for reply) × ((lent ≡ if_room reply after before) × (out ≡ if_room reply (replied q reply) reply))
  answered lent after before out r q e f g = (room, (left lent after before e, put_in out r q f g))

module _ (reply : List ℕ) (l : length reply < 48) where
  pub no_room : false ≡ room_for reply
  no_room = sym (lt-leb 48 (length reply) l)

  pub untouched : {A : Type 0} (after before : List A) → before ≡ if_room reply after before
  untouched after before = rw (← no_room) refl

  pub nothing : (after before replied : List ℕ) → (false ≡ room_for reply) × ((before ≡ if_room reply after before) × (reply ≡ if_room reply replied reply))
  nothing after before replied = (no_room, (untouched after before, untouched replied reply))
