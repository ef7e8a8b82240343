use Rattle.xfs_conversation.proofs.Converse.{conversation_of}
use Rattle.xfs_conversation.proofs.Parts.{parts_of}
use Rattle.xfs_conversation.proofs.conversations_are_their_parts.Goals as goal

pub returns-clause-parts : goal.returns-clause-parts
returns-clause-parts c = λ texts frames pending h. parts_of h

pub returns-clause-converse : goal.returns-clause-converse
returns-clause-converse c = λ texts frames pending parts. conversation_of frames texts pending parts
