-- The measure is how much may still be read; the read line brings it down.
use Rattle.replay.proofs.run.Given as goal

abbrev pub decreases-loop-reader : goal.decreases-loop-reader
decreases-loop-reader g l = l.reader.left
