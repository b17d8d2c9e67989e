use Rattle.text_core.proofs.text_bytes.+take_length.Given as goal

abbrev pub decreases-take_length : goal.decreases-take_length
decreases-take_length l = l.more
