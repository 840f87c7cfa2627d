-- What specs/ only states is proved: if one of these proofs were gone, this file would say so.
use Rattle.two_color.specs.TwoColor.{OneBipartition}
use Rattle.two_color.proofs.TwoColorLaws.{one_bipartition}
use Rattle.vizing.specs.Clause.{ClauseIsClaim}
use Rattle.vizing.proofs.ClauseLaws.{clause_is_claim, wrong_calls_fall}
use Rattle.vizing.specs.WrongCalls.{WrongCallsFall, WrongAddingCallsFall}
use Rattle.vizing.specs.AddEdge.{OneByOne}
use Rattle.vizing.proofs.AddEdgeLaws.{one_by_one, wrong_adding_calls_fall}
use Rattle.file_layout.specs.Reliance.{LongestFile}
use Rattle.file_layout.proofs.OutcomeLaws.{longest_file}

pub statements : OneBipartition × ClauseIsClaim × WrongCallsFall × OneByOne × WrongAddingCallsFall × LongestFile
statements = (one_bipartition, clause_is_claim, wrong_calls_fall, one_by_one, wrong_adding_calls_fall, longest_file)
