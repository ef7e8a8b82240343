use Rattle.xfs_client.proofs.Withdrawals.{lacks_nonce}
use Rattle.xfs_client.proofs.laws.withdrawals_know_what_they_hear.Goals as goal

pub returns : goal.returns
returns c = λ terms before frame unheard comes. lacks_nonce terms comes.texts comes.unread before comes.later frame comes.pending unheard.why comes.withdraws comes.talk unheard.refuses
