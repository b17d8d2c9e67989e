-- Faults by what is wrong and where.
use Rattle.text_core.specs.declared.place.Place.{Place}
use Rattle.cs_token.specs.declared.fault.Cause.{Cause}
use Rattle.cs_token.specs.declared.fault.Cause.TheVariants as cause
use Rattle.cs_token.specs.declared.fault.LexFault.{LexFault}
use Rattle.cs_token.specs.declared.fault.LexFault.TheVariants as fault

-- the fault of this cause at this place
abbrev pub fault_at : Cause → Place → LexFault
fault_at cause.BadCharacter place = fault.BadCharacter place
fault_at cause.UnendedText place = fault.UnendedText place
fault_at cause.UnendedComment place = fault.UnendedComment place
fault_at cause.NumberTooWide place = fault.NumberTooWide place
