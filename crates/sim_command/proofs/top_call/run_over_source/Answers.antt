use Rattle.std.proofs.Common.{arith, ◌≡◌, ◌^◌, Ok, Err, inl, inr, refl, subst}
use Rattle.sim_outside.specs.declared.reading.ReadEnd.{ReadEnd}
use Rattle.sim_outside.specs.Readings.{ReadsOnly}
use Rattle.sim_outside.specs.declared.reading.ReadEnd.TheVariants.{ReadFault, TooLong}
use Rattle.sim_command.proofs.DeviceCalls.{not_written}
use Rattle.sim_command.proofs.Endings.{all_left, ending}
use Rattle.sim_command.proofs.top_call.run_over_source.Goals as goal

pub returns-in-Ok-clause-ending : goal.returns-in-Ok-clause-ending
returns-in-Ok-clause-ending g c = λ words is_command.
    ending words c.args.command.now _ _ c.in-Ok.input _ _ is_command
    (inl (c.requires.reads, record { few = c.in-Ok.ensures.len; read = all_left _ _ _ c.in-Ok.input c.in-Ok.ensures.told; none_failed = c.in-Ok.ensures.none_failed }))
    (rw c.as_slice.ensures at c.answer_input.ensures.ending)

pub returns-in-Err-ReadFault-clause-out_calls : goal.returns-in-Err-ReadFault-clause-out_calls
returns-in-Err-ReadFault-clause-out_calls g c =
    not_written g.K.Sink.one_write c.args.out.now c.refused.result.status (λ five. let h : c.refused.result.status ≡ 5 = five in omega (arith, h, c.refused.ensures.status))

pub returns-in-Err-TooLong-clause-out_calls : goal.returns-in-Err-TooLong-clause-out_calls
returns-in-Err-TooLong-clause-out_calls g c =
    not_written g.K.Sink.one_write c.args.out.now c.refused-in-Err-TooLong.result.status (λ five. let h : c.refused-in-Err-TooLong.result.status ≡ 5 = five in omega (arith, h, c.refused-in-Err-TooLong.ensures.status))

pub returns-in-Err-Memory-clause-out_calls : goal.returns-in-Err-Memory-clause-out_calls
returns-in-Err-Memory-clause-out_calls g c =
    not_written g.K.Sink.one_write c.args.out.now c.refused-in-Err-Memory.result.status (λ five. let h : c.refused-in-Err-Memory.result.status ≡ 5 = five in omega (arith, h, c.refused-in-Err-Memory.ensures.status))

pub returns-in-Ok-clause-source_calls : goal.returns-in-Ok-clause-source_calls
returns-in-Ok-clause-source_calls g c = λ words is_command.
    inr ((c.args.command.now, is_command, c.requires.reads), (Ok c.in-Ok.input, c.in-Ok.ensures.reads, λ four. absurd (c.answer_input.ensures.no_read_fault four)))

pub returns-in-Err-ReadFault-clause-source_calls : goal.returns-in-Err-ReadFault-clause-source_calls
returns-in-Err-ReadFault-clause-source_calls g c = λ words is_command.
    inr ((c.args.command.now, is_command, c.requires.reads), (Err ReadFault, subst (λ (e : ReadEnd). ReadsOnly g.S.Source.one_read c.args.source.now (2 ^ 20) (Err e) c.read_all.new.source) c.in-Err-ReadFault.field-0-is c.in-Err-ReadFault.ensures.reads, λ four. refl))

pub returns-in-Err-TooLong-clause-source_calls : goal.returns-in-Err-TooLong-clause-source_calls
returns-in-Err-TooLong-clause-source_calls g c = λ words is_command.
    inr ((c.args.command.now, is_command, c.requires.reads), (Err TooLong, subst (λ (e : ReadEnd). ReadsOnly g.S.Source.one_read c.args.source.now (2 ^ 20) (Err e) c.read_all.new.source) c.in-Err-TooLong.field-0-is c.in-Err-TooLong.ensures.reads, λ four. let h : c.refused-in-Err-TooLong.result.status ≡ 4 = four in absurd (omega (arith, h, c.refused-in-Err-TooLong.ensures.status))))
