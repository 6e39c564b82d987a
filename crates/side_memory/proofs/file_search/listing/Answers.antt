use Rattle.side_memory.proofs.Searched.{lists_all}
use Rattle.side_memory.proofs.file_search.listing.Goals as goal

pub returns-clause-all : goal.returns-clause-all
returns-clause-all c =
    lists_all c.yaml_names.result c.args.files.now c.args.folder.now c.deref.result.now c.in_ok-names.names.items c.in_ok-names.ensures c.deref.ensures.value c.yaml_names.ensures.all
