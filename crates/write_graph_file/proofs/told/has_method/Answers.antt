-- `has_method` meets its contract: bit 3 is the one of tag 4.
use Rattle.file_layout.specs.File.{has_tag, tag_bit}
use Rattle.write_graph_file.proofs.ToldLaws.{bit_told}
use Rattle.write_graph_file.proofs.told.has_method.Goals as goal

pub returns : goal.returns
unfolding has_tag tag_bit
returns c = record { answer = bit_told c.args.tags 3 }
