-- `reports::lines::put_line` meets its contract: the index, a space, the word and a newline. Assumes nothing.
use native.Mathlib.Omega.{arith}
use Rattle.texts.proofs.Digits.{number_few}
use Rattle.texts.proofs.Writing.{wrote_length}
use Rattle.reports.proofs.FindingLines.{word_most, line_there}
use Rattle.reports.proofs.lines.put_line.Goals as goal

pub number-requires : goal.number-requires
number-requires c = (omega arith, omega (arith, number_few 1 _ c.requires.0))

pub word-requires : goal.word-requires
word-requires c =
    let n = c.number.ensures.wrote in
    omega (arith, number_few 1 _ c.requires.0, n.ends, wrote_length n)

pub put_finding-requires : goal.put_finding-requires
put_finding-requires c =
    let n = c.number.ensures.wrote in
    let w = c.word.ensures.wrote in
    omega (arith, number_few 1 _ c.requires.0, n.ends, wrote_length n, w.ends, wrote_length w)

pub word-requires-2 : goal.word-requires-2
word-requires-2 c =
    let n = c.number.ensures.wrote in
    let w = c.word.ensures.wrote in
    let f = c.put_finding.ensures.wrote in
    omega (arith, number_few 1 _ c.requires.0, word_most c.args.found, n.ends, wrote_length n, w.ends, wrote_length w, f.ends, wrote_length f)

pub returns : goal.returns
returns c = line_there c.args.i c.args.found c.number.ensures c.word.ensures c.put_finding.ensures c.word-2.ensures
