use Rattle.std.proofs.Common.{subst}
use Rattle.json_text.specs.Told.{TextsAreWhole}
use Rattle.json_text.proofs.FirstFaults.{some_values, no_bad, no_deep, bad_is, deep_is}
use Rattle.json_text.proofs.Readable.{texts_readable}
use Rattle.json_text.proofs.Placed.{values_within, shown}
use Rattle.json_text.proofs.parse.read.Goals as goal

pub invariant_of-result : goal.invariant_of-result
invariant_of-result c = record {
  some = some_values c.args.bytes.now c.in-Ok.nodes.items c.in-Ok.ensures.ok;
  readable = texts_readable c.args.bytes.now c.in-Ok.nodes.items c.in-Ok.ensures.ok;
  whole = subst (λ nodes. TextsAreWhole c.args.bytes.now nodes c.in-Ok-texts_told.told) c.deref.ensures.value c.in-Ok-texts_told.ensures;
  within = values_within c.args.bytes.now c.in-Ok.nodes.items c.in-Ok.ensures.ok;
  read = ∣ c.in-Ok.ensures.ok ∣₁;
}

pub returns-in-Ok-texts_told-clause-ok : goal.returns-in-Ok-texts_told-clause-ok
returns-in-Ok-texts_told-clause-ok c = shown _ c.in-Ok.ensures.ok

pub returns-in-Ok-texts_told-clause-is_bad : goal.returns-in-Ok-texts_told-clause-is_bad
returns-in-Ok-texts_told-clause-is_bad c at h = no_bad c.args.bytes.now at c.in-Ok.ensures.ok.clean h

pub returns-in-Ok-texts_told-clause-is_deep : goal.returns-in-Ok-texts_told-clause-is_deep
returns-in-Ok-texts_told-clause-is_deep c at h = no_deep c.args.bytes.now at c.in-Ok.ensures.ok.clean h

pub returns-in-Err-clause-is_bad : goal.returns-in-Err-clause-is_bad
returns-in-Err-clause-is_bad c at h = bad_is c.args.bytes.now c.in-Err.error at c.in-Err.ensures.err h

pub returns-in-Err-clause-is_deep : goal.returns-in-Err-clause-is_deep
returns-in-Err-clause-is_deep c at h = deep_is c.args.bytes.now c.in-Err.error at c.in-Err.ensures.err h
