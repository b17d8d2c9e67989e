use Rattle.std.specs.Prelude.{option_map}
use Rattle.cs_rules.specs.Written.{type_of}
use Rattle.cs_rules.proofs.WrittenLaws.{type_list, type_callback, type_fragment}
use Rattle.cs_forms.proofs.ComparingLemmas.{list_fails, callback_fails, fragment_fails}
use Rattle.cs_forms.proofs.comparing.part_compares.Goals as goal

pub returns-in-List : goal.returns-in-List
returns-in-List c =
    list_fails c.args.flags.now c.args.records.now (type_of c.args.written.now) (type_of c.in-List._item) (type_list c.args.written.now c.in-List._item c.in-List.is)

pub returns-in-Callback : goal.returns-in-Callback
returns-in-Callback c =
    callback_fails c.args.flags.now c.args.records.now (type_of c.args.written.now) (option_map type_of c.in-Callback._argument) (type_callback c.args.written.now c.in-Callback._argument c.in-Callback.is)

pub returns-in-Fragment : goal.returns-in-Fragment
returns-in-Fragment c =
    fragment_fails c.args.flags.now c.args.records.now (type_of c.args.written.now) (option_map type_of c.in-Fragment._argument) (type_fragment c.args.written.now c.in-Fragment._argument c.in-Fragment.is)
