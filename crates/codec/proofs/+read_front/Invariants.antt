use Rattle.codec.proofs.+read_front.Given as goal

abbrev pub decreases-read_front : goal.decreases-read_front
decreases-read_front l = l.most
