use Rattle.std.proofs.lemmas.Result.{err_from_is_err_and}
use Rattle.pepa_reader.proofs.TokenEnds.{tokens_ended, some_token}
use Rattle.pepa_reader.proofs.FileReading.{starts, rate_goes_on, process_goes_on, probe_goes_on, whole_file, file_stops}
use Rattle.pepa_reader.proofs.file.read_file.Goals as goal

pub loop-probes-init : goal.loop-probes-init
loop-probes-init c =
    rw (c.new-rates.ensures, c.new-processes.ensures, c.new-probes.ensures)
    (starts c.args.input.now c.args.tokens.now (tokens_ended c.args.input.now c.args.tokens.now c.requires) (some_token c.args.input.now c.args.tokens.now c.requires))

pub returns-in_err-item : goal.returns-in_err-item
returns-in_err-item c =
    let p = err_from_is_err_and c.from_residual.result c.from_residual.ensures.1 in
    rw (p.1, p.2) (file_stops c.args.input.now c.args.tokens.now c.loop-probes.at c.loop-probes.rates c.loop-probes.processes c.loop-probes.probes c.in_err-item.field-0.0 c.loop-probes.invariant c.in_err-item.ensures)

pub loop-probes-preserved-in-Continue-branch-2 : goal.loop-probes-preserved-in-Continue-branch-2
loop-probes-preserved-in-Continue-branch-2 c =
    rw c.in_ok-push-in-Rate.ensures.ok
    (rate_goes_on c.args.input.now c.args.tokens.now c.loop-probes.at c.in_ok-item.field-0.next c.loop-probes.rates c.loop-probes.processes c.loop-probes.probes c.in-Rate.line c.loop-probes.invariant (rw c.in-Rate.is at c.in_ok-item.ensures))

pub loop-probes-preserved-in-Continue-branch-3 : goal.loop-probes-preserved-in-Continue-branch-3
loop-probes-preserved-in-Continue-branch-3 c =
    rw c.in_ok-push-in-Process.ensures.ok
    (process_goes_on c.args.input.now c.args.tokens.now c.loop-probes.at c.in_ok-item.field-0.next c.loop-probes.rates c.loop-probes.processes c.loop-probes.probes c.in-Process.line c.loop-probes.invariant (rw c.in-Process.is at c.in_ok-item.ensures))

pub loop-probes-preserved : goal.loop-probes-preserved
loop-probes-preserved c =
    rw c.in_ok-push-in-Probe.ensures.ok
    (probe_goes_on c.args.input.now c.args.tokens.now c.loop-probes.at c.in_ok-item.field-0.next c.loop-probes.rates c.loop-probes.processes c.loop-probes.probes c.in-Probe.line c.loop-probes.invariant (rw c.in-Probe.is at c.in_ok-item.ensures))

pub returns-in-System : goal.returns-in-System
returns-in-System c =
    whole_file c.args.input.now c.args.tokens.now c.loop-probes.at c.in_ok-item.field-0.next c.loop-probes.rates c.loop-probes.processes c.loop-probes.probes c.in-System.system c.loop-probes.invariant (rw c.in-System.is at c.in_ok-item.ensures)
