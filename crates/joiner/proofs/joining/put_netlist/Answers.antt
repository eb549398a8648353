-- `joining::put_netlist` meets its contract. Assumes nothing.
use mathlib.Core.Path.{refl, ◌∙◌}
use Rattle.joiner.proofs.Netting.{marks-long, first-ready, last-ready, first-put, last-put, closing}
use Rattle.joiner.proofs.joining.put_netlist.Goals as goal

pub put_parts-first-requires : goal.put_parts-first-requires
put_parts-first-requires c =
    let pre = c.requires in
    record { options = _; pulses = _; parts-ready = first-ready pre.given }

pub join_clocks-clocks-requires : goal.join_clocks-clocks-requires
join_clocks-clocks-requires c =
    let pre = c.requires in
    let put-parts = c.put_parts-first in
    let pulses = pre.pulses in
    let G = pre.given in
    record { program = _; before = _; ms = _; put = first-put G (put-parts.ensures _ pulses (first-ready G)) refl put-parts.auto.cells }

pub put_parts-end-requires : goal.put_parts-end-requires
put_parts-end-requires c =
    let pre = c.requires in
    let join-clocks = c.join_clocks-clocks in
    let put-parts = c.put_parts-first in
    let pulses = pre.pulses in
    let G = pre.given in
    let clocks = join-clocks.ensures _ _ _ (first-put G (put-parts.ensures _ pulses (first-ready G)) refl put-parts.auto.cells) in
    rw (join-clocks.auto.cells, put-parts.auto.cells) (record { options = _; pulses = _; parts-ready = last-ready G clocks.memory })

pub join_words-walked-requires : goal.join_words-walked-requires
join_words-walked-requires c =
    let pre = c.requires in
    let put-parts = c.put_parts-first in
    let join-clocks = c.join_clocks-clocks in
    let put-parts2 = c.put_parts-end in
    let options = pre.options in
    let pulses = pre.pulses in
    let G = pre.given in
    let first = first-put G (put-parts.ensures options pulses (first-ready G)) refl put-parts.auto.cells in
    let clocks = join-clocks.ensures _ _ _ first in
    let same = join-clocks.auto.cells ∙ put-parts.auto.cells in
    let done = put-parts2.ensures options pulses (rw same (last-ready G clocks.memory)) in
    let last = last-put G clocks.memory done (marks-long first) (put-parts2.auto.cells ∙ same) in
    record { program = _; before = _; ms = _; put = last }

pub close-requires : goal.close-requires
close-requires c =
    let pre = c.requires in
    let put-parts = c.put_parts-first in
    let join-clocks = c.join_clocks-clocks in
    let put-parts2 = c.put_parts-end in
    let join-words = c.join_words-walked in
    let options = pre.options in
    let pulses = pre.pulses in
    let G = pre.given in
    let first = first-put G (put-parts.ensures options pulses (first-ready G)) refl put-parts.auto.cells in
    let clocks = join-clocks.ensures _ _ _ first in
    let same = join-clocks.auto.cells ∙ put-parts.auto.cells in
    let done = put-parts2.ensures options pulses (rw same (last-ready G clocks.memory)) in
    let last = last-put G clocks.memory done (marks-long first) (put-parts2.auto.cells ∙ same) in
    record { program = _; closing = closing G clocks (join-words.ensures _ _ _ last) (join-words.auto.cells ∙ put-parts2.auto.cells ∙ same) }

pub shape_of-cells : goal.shape_of-cells
shape_of-cells c =
    let join-words = c.join_words-walked in
    let put-parts2 = c.put_parts-end in
    let join-clocks = c.join_clocks-clocks in
    let put-parts = c.put_parts-first in
    c.close.auto.cells ∙ join-words.auto.cells ∙ put-parts2.auto.cells ∙ join-clocks.auto.cells ∙ put-parts.auto.cells

pub returns : goal.returns
returns c =
    let put-parts = c.put_parts-first in
    let join-clocks = c.join_clocks-clocks in
    let put-parts2 = c.put_parts-end in
    let join-words = c.join_words-walked in
    λ options pulses G.
    let first = first-put G (put-parts.ensures options pulses (first-ready G)) refl put-parts.auto.cells in
    let clocks = join-clocks.ensures _ _ _ first in
    let same = join-clocks.auto.cells ∙ put-parts.auto.cells in
    let done = put-parts2.ensures options pulses (rw same (last-ready G clocks.memory)) in
    let last = last-put G clocks.memory done (marks-long first) (put-parts2.auto.cells ∙ same) in
    c.close.ensures _ (closing G clocks (join-words.ensures _ _ _ last) (join-words.auto.cells ∙ put-parts2.auto.cells ∙ same))
