use Rattle.pepa_reader.specs.Trees.{file_node_of}
use Rattle.pepa_checks.proofs.Judgements.{at_a_token}
use Rattle.pepa_checks.proofs.ProbeLines.{probe_within, fault_refuses, none_written}
use Rattle.pepa_checks.proofs.file_check.check.Goals as goal

pub place_at-requires : goal.place_at-requires
place_at-requires c = probe_within c.args.input.now c.args.tokens.now c.args.tree.now c.in-Some.at c.requires.tree (rw c.as_slice.ensures at c.in-Some.ensures)

pub returns-in-Some : goal.returns-in-Some
returns-in-Some c = record { i = c.in-Some.at; refused = rw c.as_slice.ensures at c.in-Some.ensures; token = c.place_at.ensures.0; is_token = c.place_at.ensures.1; place_is = c.place_at.ensures.2 }

pub model_or_refusal-requires-clause-probes : goal.model_or_refusal-requires-clause-probes
model_or_refusal-requires-clause-probes c = rw c.as_slice.ensures at c.in_default.ensures

pub place_at-requires-in-Err-Fault : goal.place_at-requires-in-Err-Fault
place_at-requires-in-Err-Fault c =
    at_a_token c.args.input.now c.args.tokens.now c.args.tree.now c.in-Err-Fault.refusal.cause c.in-Err-Fault.refusal.at c.requires.tree (rw c.in-Err-Fault.field-0-is at c.in-Err-Fault.ensures)

pub returns-in-Err-Fault : goal.returns-in-Err-Fault
returns-in-Err-Fault c =
    let none = none_written c.args.tree.now (rw c.as_slice.ensures at c.in_default.ensures) in
    record {
      i = c.in-Err-Fault.refusal.at;
      refused = fault_refuses c.args.input.now c.args.tokens.now (file_node_of c.args.tree.now) c.in-Err-Fault.refusal.cause c.in-Err-Fault.refusal.at none (rw c.in-Err-Fault.field-0-is at c.in-Err-Fault.ensures);
      token = c.place_at-in-Err-Fault.ensures.0;
      is_token = c.place_at-in-Err-Fault.ensures.1;
      place_is = c.place_at-in-Err-Fault.ensures.2;
    }
