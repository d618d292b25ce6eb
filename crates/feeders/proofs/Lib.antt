-- Laws of the text that program feeders prints.
mod Lines  -- the lines of the tasks
mod Listed  -- from what READ and FEEDERS return to the text
