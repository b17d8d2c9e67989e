use Rattle.text_core.proofs.text_bytes.+put_length.Given as goal

abbrev pub decreases-put_length : goal.decreases-put_length
decreases-put_length l = l.more
