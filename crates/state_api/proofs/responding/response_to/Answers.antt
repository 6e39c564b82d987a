use Rattle.state_api.proofs.Cut.{reply_cut}
use Rattle.state_api.proofs.Failing.{failed_response}
use Rattle.state_api.proofs.responding.response_to.Goals as goal

pub returns-in-Failed : goal.returns-in-Failed
returns-in-Failed c = failed_response _ _ c.code_of-code.result _ c.in-Failed.is c.code_of-code.ensures c.error_response.ensures

pub bulk_response-requires : goal.bulk_response-requires
bulk_response-requires c = reply_cut c.args.cmd.now c.args.reply c.in-Rows.rows c.skip_of.result c.requires.answer c.requires.cut c.in-Rows.is c.skip_of.ensures
