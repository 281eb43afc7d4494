-- `scan::words::kind_of` meets its contract: each arm is the node that spells its word.
use mathlib.Core.Path.{sym, ap}
use borrow.Author.Tests.{ne_eqb}
use Rattle.token.specs.Regex.{bytes}
use Rattle.token.specs.Patterns.{token, words}
use Rattle.token.specs.Tables.{classes, trie}
use Rattle.token.specs.Run.{class_of}
use Rattle.token.specs.WordNumber.{step, step_by, number_from, number, keyword_in, keyword, kind_in, kind_of}
use Rattle.scan.proofs.Arms.{kind_other}
use Rattle.scan.proofs.words.kind_of.Goals as goal

pub returns-in-146 : goal.returns-in-146
unfolding kind_of kind_in keyword keyword_in number number_from step step_by class_of words token bytes classes trie
returns-in-146 c = ap kind_of (sym c.in-146.is)

pub returns-in-150 : goal.returns-in-150
unfolding kind_of kind_in keyword keyword_in number number_from step step_by class_of words token bytes classes trie
returns-in-150 c = ap kind_of (sym c.in-150.is)

pub returns-in-134 : goal.returns-in-134
unfolding kind_of kind_in keyword keyword_in number number_from step step_by class_of words token bytes classes trie
returns-in-134 c = ap kind_of (sym c.in-134.is)

pub returns-in-135 : goal.returns-in-135
unfolding kind_of kind_in keyword keyword_in number number_from step step_by class_of words token bytes classes trie
returns-in-135 c = ap kind_of (sym c.in-135.is)

pub returns-in-101 : goal.returns-in-101
unfolding kind_of kind_in keyword keyword_in number number_from step step_by class_of words token bytes classes trie
returns-in-101 c = ap kind_of (sym c.in-101.is)

pub returns-in-82 : goal.returns-in-82
unfolding kind_of kind_in keyword keyword_in number number_from step step_by class_of words token bytes classes trie
returns-in-82 c = ap kind_of (sym c.in-82.is)

pub returns-in-124 : goal.returns-in-124
unfolding kind_of kind_in keyword keyword_in number number_from step step_by class_of words token bytes classes trie
returns-in-124 c = ap kind_of (sym c.in-124.is)

pub returns-in-110 : goal.returns-in-110
unfolding kind_of kind_in keyword keyword_in number number_from step step_by class_of words token bytes classes trie
returns-in-110 c = ap kind_of (sym c.in-110.is)

pub returns-in-148 : goal.returns-in-148
unfolding kind_of kind_in keyword keyword_in number number_from step step_by class_of words token bytes classes trie
returns-in-148 c = ap kind_of (sym c.in-148.is)

pub returns-in-138 : goal.returns-in-138
unfolding kind_of kind_in keyword keyword_in number number_from step step_by class_of words token bytes classes trie
returns-in-138 c = ap kind_of (sym c.in-138.is)

pub returns-in-137 : goal.returns-in-137
unfolding kind_of kind_in keyword keyword_in number number_from step step_by class_of words token bytes classes trie
returns-in-137 c = ap kind_of (sym c.in-137.is)

pub returns-in-121 : goal.returns-in-121
unfolding kind_of kind_in keyword keyword_in number number_from step step_by class_of words token bytes classes trie
returns-in-121 c = ap kind_of (sym c.in-121.is)

pub returns-in-144 : goal.returns-in-144
unfolding kind_of kind_in keyword keyword_in number number_from step step_by class_of words token bytes classes trie
returns-in-144 c = ap kind_of (sym c.in-144.is)

pub returns-in-145 : goal.returns-in-145
unfolding kind_of kind_in keyword keyword_in number number_from step step_by class_of words token bytes classes trie
returns-in-145 c = ap kind_of (sym c.in-145.is)

pub returns-in-91 : goal.returns-in-91
unfolding kind_of kind_in keyword keyword_in number number_from step step_by class_of words token bytes classes trie
returns-in-91 c = ap kind_of (sym c.in-91.is)

pub returns-in-92 : goal.returns-in-92
unfolding kind_of kind_in keyword keyword_in number number_from step step_by class_of words token bytes classes trie
returns-in-92 c = ap kind_of (sym c.in-92.is)

pub returns-in-93 : goal.returns-in-93
unfolding kind_of kind_in keyword keyword_in number number_from step step_by class_of words token bytes classes trie
returns-in-93 c = ap kind_of (sym c.in-93.is)

pub returns-in-37 : goal.returns-in-37
unfolding kind_of kind_in keyword keyword_in number number_from step step_by class_of words token bytes classes trie
returns-in-37 c = ap kind_of (sym c.in-37.is)

pub returns-in-5 : goal.returns-in-5
unfolding kind_of kind_in keyword keyword_in number number_from step step_by class_of words token bytes classes trie
returns-in-5 c = ap kind_of (sym c.in-5.is)

pub returns-in-2 : goal.returns-in-2
unfolding kind_of kind_in keyword keyword_in number number_from step step_by class_of words token bytes classes trie
returns-in-2 c = ap kind_of (sym c.in-2.is)

pub returns-in-4 : goal.returns-in-4
unfolding kind_of kind_in keyword keyword_in number number_from step step_by class_of words token bytes classes trie
returns-in-4 c = ap kind_of (sym c.in-4.is)

pub returns-in-131 : goal.returns-in-131
unfolding kind_of kind_in keyword keyword_in number number_from step step_by class_of words token bytes classes trie
returns-in-131 c = ap kind_of (sym c.in-131.is)

pub returns-in-125 : goal.returns-in-125
unfolding kind_of kind_in keyword keyword_in number number_from step step_by class_of words token bytes classes trie
returns-in-125 c = ap kind_of (sym c.in-125.is)

pub returns-in-130 : goal.returns-in-130
unfolding kind_of kind_in keyword keyword_in number number_from step step_by class_of words token bytes classes trie
returns-in-130 c = ap kind_of (sym c.in-130.is)

pub returns-in-71 : goal.returns-in-71
unfolding kind_of kind_in keyword keyword_in number number_from step step_by class_of words token bytes classes trie
returns-in-71 c = ap kind_of (sym c.in-71.is)

pub returns-in-97 : goal.returns-in-97
unfolding kind_of kind_in keyword keyword_in number number_from step step_by class_of words token bytes classes trie
returns-in-97 c = ap kind_of (sym c.in-97.is)

pub returns-in-63 : goal.returns-in-63
unfolding kind_of kind_in keyword keyword_in number number_from step step_by class_of words token bytes classes trie
returns-in-63 c = ap kind_of (sym c.in-63.is)

pub returns-in-81 : goal.returns-in-81
unfolding kind_of kind_in keyword keyword_in number number_from step step_by class_of words token bytes classes trie
returns-in-81 c = ap kind_of (sym c.in-81.is)

pub returns-in-116 : goal.returns-in-116
unfolding kind_of kind_in keyword keyword_in number number_from step step_by class_of words token bytes classes trie
returns-in-116 c = ap kind_of (sym c.in-116.is)

pub returns-in-129 : goal.returns-in-129
unfolding kind_of kind_in keyword keyword_in number number_from step step_by class_of words token bytes classes trie
returns-in-129 c = ap kind_of (sym c.in-129.is)

pub returns-in_default : goal.returns-in_default
returns-in_default c = sym (kind_other c.args.number (rw (ne_eqb _ _ c.in_default.in_default-own.rest.0.0.0.0.0.0.0.0.0.0.0.0.0.0.0.0.0.0.0.0.0.0.0.0.0.0.0.0.0.1, ne_eqb _ _ c.in_default.in_default-own.rest.0.0.0.0.0.0.0.0.0.0.0.0.0.0.0.0.0.0.0.0.0.0.0.0.0.0.0.0.1, ne_eqb _ _ c.in_default.in_default-own.rest.0.0.0.0.0.0.0.0.0.0.0.0.0.0.0.0.0.0.0.0.0.0.0.0.0.0.0.1, ne_eqb _ _ c.in_default.in_default-own.rest.0.0.0.0.0.0.0.0.0.0.0.0.0.0.0.0.0.0.0.0.0.0.0.0.0.0.1, ne_eqb _ _ c.in_default.in_default-own.rest.0.0.0.0.0.0.0.0.0.0.0.0.0.0.0.0.0.0.0.0.0.0.0.0.0.1, ne_eqb _ _ c.in_default.in_default-own.rest.0.0.0.0.0.0.0.0.0.0.0.0.0.0.0.0.0.0.0.0.0.0.0.0.1, ne_eqb _ _ c.in_default.in_default-own.rest.0.0.0.0.0.0.0.0.0.0.0.0.0.0.0.0.0.0.0.0.0.0.0.1, ne_eqb _ _ c.in_default.in_default-own.rest.0.0.0.0.0.0.0.0.0.0.0.0.0.0.0.0.0.0.0.0.0.0.1, ne_eqb _ _ c.in_default.in_default-own.rest.0.0.0.0.0.0.0.0.0.0.0.0.0.0.0.0.0.0.0.0.0.1, ne_eqb _ _ c.in_default.in_default-own.rest.0.0.0.0.0.0.0.0.0.0.0.0.0.0.0.0.0.0.0.0.1, ne_eqb _ _ c.in_default.in_default-own.rest.0.0.0.0.0.0.0.0.0.0.0.0.0.0.0.0.0.0.0.1, ne_eqb _ _ c.in_default.in_default-own.rest.0.0.0.0.0.0.0.0.0.0.0.0.0.0.0.0.0.0.1, ne_eqb _ _ c.in_default.in_default-own.rest.0.0.0.0.0.0.0.0.0.0.0.0.0.0.0.0.0.1, ne_eqb _ _ c.in_default.in_default-own.rest.0.0.0.0.0.0.0.0.0.0.0.0.0.0.0.0.1, ne_eqb _ _ c.in_default.in_default-own.rest.0.0.0.0.0.0.0.0.0.0.0.0.0.0.0.1, ne_eqb _ _ c.in_default.in_default-own.rest.0.0.0.0.0.0.0.0.0.0.0.0.0.0.1, ne_eqb _ _ c.in_default.in_default-own.rest.0.0.0.0.0.0.0.0.0.0.0.0.0.1, ne_eqb _ _ c.in_default.in_default-own.rest.0.0.0.0.0.0.0.0.0.0.0.0.1, ne_eqb _ _ c.in_default.in_default-own.rest.0.0.0.0.0.0.0.0.0.0.0.1, ne_eqb _ _ c.in_default.in_default-own.rest.0.0.0.0.0.0.0.0.0.0.1, ne_eqb _ _ c.in_default.in_default-own.rest.0.0.0.0.0.0.0.0.0.1, ne_eqb _ _ c.in_default.in_default-own.rest.0.0.0.0.0.0.0.0.1, ne_eqb _ _ c.in_default.in_default-own.rest.0.0.0.0.0.0.0.1, ne_eqb _ _ c.in_default.in_default-own.rest.0.0.0.0.0.0.1, ne_eqb _ _ c.in_default.in_default-own.rest.0.0.0.0.0.1, ne_eqb _ _ c.in_default.in_default-own.rest.0.0.0.0.1, ne_eqb _ _ c.in_default.in_default-own.rest.0.0.0.1, ne_eqb _ _ c.in_default.in_default-own.rest.0.0.1, ne_eqb _ _ c.in_default.in_default-own.rest.0.1, ne_eqb _ _ c.in_default.in_default-own.rest.1)))
