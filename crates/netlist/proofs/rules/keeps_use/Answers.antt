-- `rules::keeps_use` meets its contract: in each arm the use is known, and both sides are the same tests. Assumes nothing.
use Rattle.std.proofs.Common.{refl, not, ◌||◌, eqb, arith}
use Rattle.model.specs.Circuit.{control, names}
use Rattle.model.specs.NetlistFile.{of_array, control_in, word_in, array_in, kept}
use Rattle.netlist.proofs.CellChecks.{named}
use Rattle.netlist.proofs.rules.keeps_use.Goals as goal

pub returns-in-Unknown : goal.returns-in-Unknown
unfolding kept
returns-in-Unknown c = λ net n s. rw c.in-Unknown.is refl

pub returns-in-Unused : goal.returns-in-Unused
unfolding kept
returns-in-Unused c = λ net n s. rw c.in-Unused.is refl

pub returns-in-Value : goal.returns-in-Value
unfolding kept
returns-in-Value c = λ net n s. rw c.in-Value.is refl

pub returns-in-Positive : goal.returns-in-Positive
unfolding kept
returns-in-Positive c = λ net n s. rw c.in-Positive.is refl

pub returns-in-ControlBelow : goal.returns-in-ControlBelow
unfolding kept control_in names
returns-in-ControlBelow c =
    let u = c.in-ControlBelow.is in
    λ net n s. rw (u, c.is_control.ensures) (named net c.args.k c.args.v control (λ l. s (rw u refl) (omega (arith, l, c.requires))))

pub returns-in-ControlAny : goal.returns-in-ControlAny
unfolding kept control_in names
returns-in-ControlAny c =
    let u = c.in-ControlAny.is in
    λ net n s. rw (u, c.is_control-in-ControlAny.ensures, n) (named net c.args.n c.args.v control (λ l. s (rw u refl) l))

pub returns-in-WordBelow : goal.returns-in-WordBelow
unfolding kept word_in names
returns-in-WordBelow c =
    let u = c.in-WordBelow.is in
    λ net n s. rw (u, c.is_word.ensures) (named net c.args.k c.args.v (λ j. not (control j || of_array j)) (λ l. s (rw u refl) (omega (arith, l, c.requires))))

pub returns-in-WordAny : goal.returns-in-WordAny
unfolding kept word_in names
returns-in-WordAny c =
    let u = c.in-WordAny.is in
    λ net n s. rw (u, c.is_word-in-WordAny.ensures, n) (named net c.args.n c.args.v (λ j. not (control j || of_array j)) (λ l. s (rw u refl) l))

pub returns-in-ArrayBelow : goal.returns-in-ArrayBelow
unfolding kept array_in names
returns-in-ArrayBelow c =
    let u = c.in-ArrayBelow.is in
    λ net n s. rw (u) (named net c.args.k c.args.v (λ j. eqb j 42) (λ l. s (rw u refl) (omega (arith, l, c.requires))))
