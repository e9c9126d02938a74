mod NextSteps
