-- A wheel lends its lists: when two wheels lend the same ones, and what the lists have. Assumes nothing: definitions.
use Rattle.std.specs.Prelude.{List, ◌≡◌, ℕ, length}
use Rattle.engine.specs.declared.wheel.Wheel.{Wheel}
use Rattle.engine_laws.specs.Fanout.{Events, events}

-- two wheels lend the same lists, which are as long, and as many words of a row are in use
abbrev pub SameLists : Wheel → Wheel → Type 0
SameLists old new =
    (new.rows.ghost_name ≡ old.rows.ghost_name) × (new.tag.ghost_name ≡ old.tag.ghost_name) × (new.occupied.ghost_name ≡ old.occupied.ghost_name)
    × (length new.rows.now ≡ length old.rows.now) × (length new.tag.now ≡ length old.tag.now) × (length new.occupied.now ≡ length old.occupied.now)
    × (new.width ≡ old.width)

-- what the lists have, and what each cell holds
abbrev pub events_of : Wheel → List ℕ → Events
events_of wheel held = events wheel.rows.now wheel.tag.now wheel.occupied.now held
