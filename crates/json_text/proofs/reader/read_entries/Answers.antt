use Rattle.std.proofs.Common.{refl, sym, subst, []}
use Rattle.json_text.specs.declared.part.Part.TheVariants.{Start as start}
use Rattle.json_text.specs.Reading.{Reads}
use Rattle.json_text.proofs.Tokens.{read_start}
use Rattle.json_text.proofs.reader.read_entries.Goals as goal

pub loop-reader-init : goal.loop-reader-init
loop-reader-init c = record {
  same = refl;
  reader = record {
    reads = subst (λ n. Reads c.args.bytes.now 0 start n c.new-2.result.items) (sym c.new.ensures.items) (subst (λ o. Reads c.args.bytes.now 0 start [] o) (sym c.new-2.ensures.items) (read_start c.args.bytes.now));
    known = record { within = c.utf8_len.ensures.within; utf8 = c.utf8_len.ensures.utf8 };
  };
}
