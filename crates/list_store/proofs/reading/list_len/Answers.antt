-- The length is that of the front's list.
use Rattle.std.proofs.Common.{ap, sym, ◌∙◌}
use Rattle.intern_core.specs.History.{listing_in}
use Rattle.list_store.proofs.ListReads.{measured, entries_of, none_of}
use Rattle.list_store.proofs.reading.list_len.Goals as goal

pub returns-clause-length : goal.returns-clause-length
returns-clause-length g c =
    c.list_length.ensures
    ∙ measured g.M.Meaning.lawful g.M.Meaning.allowed g.M.Meaning.stands c.args.table.now.setting c.args.pass.now.view c.step_load_list-word.new.pass.view c.step_load_list-word.result c.args.number
    c.requires.idle c.step_load_list-word.ensures.step

pub returns-clause-entries : goal.returns-clause-entries
returns-clause-entries g c =
    let w = c.step_load_list-word.new.pass.view in
    entries_of w.front c.args.number c.list_length.result
    (c.list_length.ensures
    ∙ measured g.M.Meaning.lawful g.M.Meaning.allowed g.M.Meaning.stands c.args.table.now.setting c.args.pass.now.view w c.step_load_list-word.result c.args.number c.requires.idle c.step_load_list-word.ensures.step)

pub returns-clause-unlisted : goal.returns-clause-unlisted
returns-clause-unlisted g c = λ none.
    let w = c.step_load_list-word.new.pass.view in
    ap (λ l. listing_in l c.args.number) (sym c.step_load_list-word.ensures.stays.seen)
    ∙ none_of w.front c.args.number w.seat.pass
    (sym none ∙ c.list_length.ensures
    ∙ measured g.M.Meaning.lawful g.M.Meaning.allowed g.M.Meaning.stands c.args.table.now.setting c.args.pass.now.view w c.step_load_list-word.result c.args.number c.requires.idle c.step_load_list-word.ensures.step)
