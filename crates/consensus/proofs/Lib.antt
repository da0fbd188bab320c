-- The demands about the judge, proved.
pub mod Asking  -- going by checks in their order
pub mod RoundReplies  -- the replies to a round are those of the relation, and no others
pub mod OpeningReplies  -- those to an opening
pub mod ImageReplies  -- those to an image and to a run that is saved
pub mod WritingReplies  -- those to a round that is written
pub mod PlayAnswers  -- what playing answers
pub mod EntryAnswers  -- what the two entries answer and leave
pub mod Taken  -- what is offered is its rounds, up to the first that is refused
pub mod Lawful  -- the accepted rounds are rounds of the paper
pub mod Outside  -- nothing stands outside n by n
pub mod Spelled  -- what is read and written is spelled by its bytes
pub mod Ties  -- names tied to numbers and bytes
pub mod Tape  -- a tape read and written again is the same bytes
pub mod Demand1  -- demand 1, of this judge
pub mod Demand2  -- demand 2, of this judge
pub mod EmptyJudges  -- ways to answer that do not meet it
pub mod Latest  -- what the last round left
pub mod Demand3  -- demand 3, of all that is offered to an opened run
pub mod Hosted  -- demand 3, of the images that a host holds
pub mod OneJudge  -- demands 1 and 2 leave one answer to a step
pub mod SameJudge  -- and that in every call
pub mod Owned  -- a station goes by its own row; sizes and counts cannot be invented
