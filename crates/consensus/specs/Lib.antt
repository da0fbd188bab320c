-- What a reader must believe: that these definitions say the three demands.
pub mod Judge  -- what a judge answers to each call
pub mod Round  -- a round offered to a run: its records, and the paper's round that they spell
pub mod OneReply  -- what it is for a relation to settle the reply
pub mod RoundReplies  -- the replies to a round that is taken, read or surveyed
pub mod OpeningReplies  -- to an opening that is read or written
pub mod ImageReplies  -- to an image that is loaded and a run that is saved
pub mod WritingReplies  -- to a round that is written
pub mod PlayAnswers  -- what playing answers
pub mod EntryAnswers  -- what the two entries answer and leave
pub mod Spelled  -- what bytes spell, record by record
pub mod Ties  -- the names in these statements, tied to numbers and bytes
pub mod Tape  -- a whole tape, read and written again
pub mod Demand1  -- each call answers, and a refusal changes nothing
pub mod Demand2  -- what is accepted, and what then holds
pub mod SameAnswer  -- what it is for two judges to agree
pub mod EmptyJudges  -- ways to answer that must fail
pub mod Offered  -- rounds to step and parts to play, and those that are accepted
pub mod Demand3  -- what holds of all that a run accepts
pub mod Hosted  -- what a host holds
