use native.Mathlib.Omega.{arith}
use Rattle.records.proofs.CallLaws.{length_zeros, zeros_lent, to_zeros}
use Rattle.records.proofs.answer.answer_call.Goals as goal

pub slice_bounds-answer_by-end : goal.slice_bounds-answer_by-end
slice_bounds-answer_by-end c = length_zeros _ 69 _ c.no_figures-figures.ensures c.figure_count-count.ensures.1

pub answer_by-requires : goal.answer_by-requires
answer_by-requires c = (c.requires.0, omega (arith, length_zeros _ 69 _ c.no_figures-figures.ensures c.figure_count-count.ensures.1, c.figure_count-count.ensures.1))

pub returns : goal.returns
returns c =
    rw (← to_zeros _ _ _ _ _ _ _ c.requires.1 (rw c.mode_of-mode.ensures at c.figure_count-count.ensures.0)
    (zeros_lent _ 69 _ c.no_figures-figures.ensures c.figure_count-count.ensures.1)) c.answer_by.ensures
