use Rattle.std.proofs.Common.{◌≡◌, ◌+◌, ◌-◌, length, set, get_or, sym, ap, subst, ◌∙◌, arith}
use Rattle.json_text.specs.declared.part.Part.TheVariants.{Rest as rest}
use Rattle.json_text.specs.Progress.{spot}
use Rattle.json_text.specs.Reading.{Reads}
use Rattle.json_text.proofs.Tokens.{read_close, open_inside}
use Rattle.json_text.proofs.Steps.{nothing_open}
use Rattle.json_text.proofs.reader.Reader.close.Goals as goal

pub index-requires : goal.index-requires
index-requires c =
    let self = c.args.self.now in
    omega (arith, open_inside self.bytes.now self.at c.args.here self.nodes.items self.opened.items c.pop.new.self.items c.in-Some.opening c.requires.faces.reader.reads c.in-Some.ensures.items)

pub overflow_sub-size : goal.overflow_sub-size
overflow_sub-size c =
    let self = c.args.self.now in
    omega (arith, c.len.ensures, open_inside self.bytes.now self.at c.args.here self.nodes.items self.opened.items c.pop.new.self.items c.in-Some.opening c.requires.faces.reader.reads c.in-Some.ensures.items)

pub index_mut-requires : goal.index_mut-requires
index_mut-requires c =
    let self = c.args.self.now in
    omega (arith, open_inside self.bytes.now self.at c.args.here self.nodes.items self.opened.items c.pop.new.self.items c.in-Some.opening c.requires.faces.reader.reads c.in-Some.ensures.items)

pub unreachable-requires : goal.unreachable-requires
unreachable-requires c =
    let self = c.args.self.now in
    let none : length self.opened.items ≡ 0 = omega (arith, c.in-None.ensures.len, c.in-None.ensures.cases) in
    nothing_open c.args.level c.args.here (get_or self.bytes.now self.at 0) self.opened.items c.requires.faces.between.level_is none c.requires.closes

pub returns-clause-reader : goal.returns-clause-reader
returns-clause-reader c =
    let self = c.args.self.now in
    let nodes = self.nodes.items in
    let o = c.in-Some.opening in
    let kept = c.unpacked-kept.result in
    let counted : c.len.result ≡ length nodes = omega (arith, c.len.ensures) in
    let written : set nodes o.node c.in-Some-of.packed ≡ set nodes o.node (record { spot = spot kept.spot.kind kept.spot.span.start (self.at + 1) kept.spot.name; depth = kept.depth; size = length nodes - o.node }) =
    ap (set nodes o.node) (c.in-Some-of.ensures ∙ c.ended.ensures) ∙ ap (λ n. set nodes o.node (record { spot = spot kept.spot.kind kept.spot.span.start (self.at + 1) kept.spot.name; depth = kept.depth; size = n - o.node })) counted in
    record {
      reads = subst (λ n. Reads self.bytes.now (self.at + 1) rest n c.pop.new.self.items) (sym written)
          (read_close self.bytes.now self.at c.args.here nodes self.opened.items c.args.level c.requires.faces.reader.reads c.requires.faces.between c.pop.new.self.items o kept c.in-Some.ensures.items c.requires.closes (c.unpacked-kept.ensures ∙ c.index.ensures ∙ ap (get_or nodes o.node) (sym c.unpacked-kept.ensures)));
      known = c.requires.faces.reader.known;
    }
